pub mod ChunkSets
