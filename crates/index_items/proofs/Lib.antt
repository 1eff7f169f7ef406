mod ItemLemmas
mod SizingLemmas
