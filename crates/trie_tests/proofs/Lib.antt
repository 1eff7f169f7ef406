mod BlankLaws
mod ExampleTrie
