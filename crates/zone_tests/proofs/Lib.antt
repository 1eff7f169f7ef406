mod OpeningLaws
mod ReloadLaws
