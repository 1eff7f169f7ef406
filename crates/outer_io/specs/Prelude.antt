-- The words that this crate's clauses cite, passed on from one place. Declares nothing.
pub use Rattle.std.specs.Io.KnownBytes.{Consumes, IsAtEnd, Keeps}
pub use Rattle.outer_io.specs.Bytes.{GivesBytes, Grows, GrowsByFront, Held, held_of}
pub use Rattle.outer_io.specs.Calls.{next_count}
pub use Rattle.outer_io.specs.Faults.{Blames, BlamesEach, Rose}
pub use Rattle.outer_io.specs.Memory.{told}
pub use Rattle.outer_io.specs.declared.reading.ReadRefusal.TheVariants.{Fault, Memory}
