pub mod OneCellLaws
