-- What a seat knows, as plain data, and how a step changes it. The right to know all is cut into parts: who has them all knows what
-- everybody took.
use Rattle.std.specs.Prelude.{ℕ, ◌+◌, ◌-◌, [], ◌∷◌, ◌++◌, true, false}
use Rattle.feed_core.specs.declared.knowledge.Knowledge.{Knowledge}

-- a seat that has all of so many parts, and has put so many numbers and end marks
abbrev pub alone : ℕ → ℕ → ℕ → Knowledge
alone parts put marks = record { parts = parts; whole = parts; put = put; marks = marks; fills = true; taken = []; ends = 0 }

-- a seat that has some of the parts, and has taken nothing
abbrev pub holder : ℕ → ℕ → ℕ → ℕ → Knowledge
holder parts whole put marks = record { parts = parts; whole = whole; put = put; marks = marks; fills = false; taken = []; ends = 0 }

-- a seat without a part
abbrev pub nobody : Knowledge
nobody = holder 0 0 0 0

-- there is one part more, and this seat has it
abbrev pub grown : Knowledge → Knowledge
grown v = record v { parts = v.parts + 1; whole = v.whole + 1 }

-- one part goes to a new seat; from then on nothing is put
abbrev pub giver_of : Knowledge → Knowledge
giver_of v = record v { parts = v.parts - 1; fills = false }

-- the new seat
abbrev pub taker_of : Knowledge → Knowledge
taker_of v = holder 1 v.whole v.put v.marks

-- two seats in one
abbrev pub joined : Knowledge → Knowledge → Knowledge
joined v w = record v { parts = v.parts + w.parts; fills = false; taken = v.taken ++ w.taken; ends = v.ends + w.ends }

-- the next number was put
abbrev pub with_put : Knowledge → Knowledge
with_put v = record v { put = v.put + 1 }

-- an end mark was put
abbrev pub with_mark : Knowledge → Knowledge
with_mark v = record v { marks = v.marks + 1 }

-- a number was taken
abbrev pub with_taken : Knowledge → ℕ → Knowledge
with_taken v number = record v { taken = v.taken ++ number ∷ [] }

-- an end mark was taken
abbrev pub ended : Knowledge → Knowledge
ended v = record v { ends = v.ends + 1 }
