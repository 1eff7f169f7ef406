mod LineNumbers
mod ArgumentLaws
mod ListLaws
mod FeedLaws
mod FrontLaws
mod ProgressLaws
mod FirstLaws
mod LineLaws
