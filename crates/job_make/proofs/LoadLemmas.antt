-- The lines of a load, one more at a time.
use Rattle.std.proofs.Common.{◌≡◌, ◌∙◌, ◌<◌, ◌≤◌, ◌+◌, ◌-◌, ◌%◌, ℕ, suc, Bool, cond, eqb, List, [], ◌∷◌, ◌++◌, refl, sym, ap, arith, codes, append_assoc, append-nil}
use Rattle.std.proofs.lemmas.List.Concat.{flat_map-append}
use Rattle.std.specs.List.{flat_map}
use Rattle.job_model.specs.Loads.{Load, Part, Moves, Removes, address_text, first_lines, line_text, made_text, name_text, names_lines, part_of, share, state_after, state_behind, turn_from, turn_lines, turns_from, worker_lines, worker_state, workers_from}

-- one name more
pub names_more : (start mid now : List ℕ) (name : ℕ) → mid ≡ start ++ flat_map line_text (names_lines name) → now ≡ (mid ++ name_text name) ++ codes " A 10.0.0.1\n" → now ≡ start ++ flat_map line_text (names_lines (name + 1))
unfolding names_lines
names_more start mid now name m e =
    let more : ((start ++ flat_map line_text (names_lines name)) ++ name_text name) ++ codes " A 10.0.0.1\n" ≡ start ++ flat_map line_text (names_lines name ++ (name_text name ++ codes " A 10.0.0.1") ∷ []) =
    rw flat_map-append (simp append_assoc) in
    e ∙ ap (λ (t : List ℕ). (t ++ name_text name) ++ codes " A 10.0.0.1\n") m ∙ more ∙ ap (λ (n : ℕ). start ++ flat_map line_text (names_lines n)) (let n : suc name ≡ name + 1 = omega arith in n)

-- one number more is looked at
pub share_more : (workers remainder name count next : ℕ) (b : Bool) → count ≡ share workers remainder name → b ≡ eqb (name % workers) remainder → next ≡ count + cond b 1 0 → next ≡ share workers remainder (name + 1)
unfolding share
share_more workers remainder name count next b c is e =
    e ∙ ap (λ (n : ℕ). n + cond b 1 0) c ∙ ap (λ (x : Bool). share workers remainder name + cond x 1 0) is ∙ ap (share workers remainder) (let n : suc name ≡ name + 1 = omega arith in n)

-- the turns that are left, and one less
left_turns : (turns i : ℕ) → i < turns → turns - i ≡ suc (turns - (i + 1))
left_turns turns i h = omega arith

pub turn_more : (part : Part) (turns i x : ℕ) (out now : List ℕ) → i < turns → now ≡ out ++ flat_map line_text (turn_lines (turn_from part x))
    → now ++ flat_map line_text (turns_from part (turns - (i + 1)) (state_behind x)) ≡ out ++ flat_map line_text (turns_from part (turns - i) x)
unfolding turns_from
turn_more part turns i x out now h e =
    ap (λ (t : List ℕ). t ++ flat_map line_text (turns_from part (turns - (i + 1)) (state_behind x))) e
    ∙ append_assoc out (flat_map line_text (turn_lines (turn_from part x))) (flat_map line_text (turns_from part (turns - (i + 1)) (state_behind x)))
    ∙ ap (λ (t : List ℕ). out ++ t) (sym (flat_map-append line_text (turn_lines (turn_from part x)) (turns_from part (turns - (i + 1)) (state_behind x))))
    ∙ ap (λ (n : ℕ). out ++ flat_map line_text (turns_from part n x)) (sym (left_turns turns i h))

pub state_more : (turns i x : ℕ) → i < turns → state_after (turns - (i + 1)) (state_behind x) ≡ state_after (turns - i) x
unfolding state_after
state_more turns i x h = ap (λ (n : ℕ). state_after n x) (sym (left_turns turns i h))

-- no turn is left
pub no_turns : (part : Part) (turns i x : ℕ) → turns ≤ i → turns_from part (turns - i) x ≡ []
unfolding turns_from
no_turns part turns i x h = ap (λ (n : ℕ). turns_from part n x) (let e : turns - i ≡ 0 = omega arith in e)

pub same_state : (turns i x : ℕ) → turns ≤ i → state_after (turns - i) x ≡ x
unfolding state_after
same_state turns i x h = ap (λ (n : ℕ). state_after n x) (let e : turns - i ≡ 0 = omega arith in e)

-- the workers that are left, and one less
pub worker_more : (load : Load) (workers r x y : ℕ) (out now : List ℕ) → r < workers → now ≡ out ++ flat_map line_text (worker_lines load r x) → y ≡ worker_state load r x
    → now ++ flat_map line_text (workers_from load (workers - (r + 1)) (r + 1) y) ≡ out ++ flat_map line_text (workers_from load (workers - r) r x)
unfolding workers_from
worker_more load workers r x y out now h e s =
    ap (λ (z : ℕ). now ++ flat_map line_text (workers_from load (workers - (r + 1)) (r + 1) z)) s
    ∙ ap (λ (t : List ℕ). t ++ flat_map line_text (workers_from load (workers - (r + 1)) (r + 1) (worker_state load r x))) e
    ∙ append_assoc out (flat_map line_text (worker_lines load r x)) (flat_map line_text (workers_from load (workers - (r + 1)) (r + 1) (worker_state load r x)))
    ∙ ap (λ (t : List ℕ). out ++ t) (sym (flat_map-append line_text (worker_lines load r x) (workers_from load (workers - (r + 1)) (r + 1) (worker_state load r x))))
    ∙ ap (λ (n : ℕ). out ++ flat_map line_text (workers_from load n r x)) (sym (left_turns workers r h))

pub no_workers : (load : Load) (workers r x : ℕ) → workers ≤ r → workers_from load (workers - r) r x ≡ []
unfolding workers_from
no_workers load workers r x h = ap (λ (n : ℕ). workers_from load n r x) (let e : workers - r ≡ 0 = omega arith in e)

-- a worker without names
pub idle_state : (load : Load) (remainder x : ℕ) → share load.workers remainder load.names ≡ 0 → worker_state load remainder x ≡ x
unfolding state_after
idle_state load remainder x e = ap (λ (n : ℕ). state_after (cond (eqb n 0) 0 load.turns) x) e

pub idle_lines : (load : Load) (remainder x : ℕ) (out now : List ℕ) → share load.workers remainder load.names ≡ 0 → now ≡ out ++ codes "worker\n" → now ≡ out ++ flat_map line_text (worker_lines load remainder x)
unfolding turns_from
idle_lines load remainder x out now e is =
    is ∙ ap (λ (n : ℕ). out ++ flat_map line_text (codes "worker" ∷ turns_from (part_of load remainder) (cond (eqb n 0) 0 load.turns) x)) (sym e)

-- ---- the lines of a turn, from their pieces

pub names_first : (out : List ℕ) → out ≡ out ++ flat_map line_text (names_lines 0)
unfolding names_lines
names_first out = sym (append-nil out)

pub share_first : (workers remainder : ℕ) → 0 ≡ share workers remainder 0
unfolding share
share_first workers remainder = refl

regroup_move : (o w l d n a e t x c : List ℕ) → ((((((o ++ ((w ++ l) ++ d)) ++ n) ++ ((a ++ l) ++ e)) ++ n) ++ t) ++ x) ++ ((l ++ c) ++ l) ≡ o ++ ((w ++ l) ++ ((((d ++ n) ++ a) ++ l) ++ (((((e ++ n) ++ t) ++ x) ++ l) ++ ((c ++ l) ++ []))))
regroup_move o w l d n a e t x c = simp (append_assoc, append-nil)

pub move_pieces : (o0 o1 o2 o3 o4 o5 o6 o7 : List ℕ) (name c : ℕ) → o1 ≡ o0 ++ codes "write\ndel " → o2 ≡ o1 ++ name_text name → o3 ≡ o2 ++ codes " A\nadd " → o4 ≡ o3 ++ name_text name → o5 ≡ o4 ++ codes " 300 A " → o6 ≡ o5 ++ address_text c → o7 ≡ o6 ++ codes "\ncommit\n"
    → o7 ≡ o0 ++ flat_map line_text (turn_lines (Moves name c))
move_pieces o0 o1 o2 o3 o4 o5 o6 o7 name c e1 e2 e3 e4 e5 e6 e7 =
    e7 ∙ ap (λ (t : List ℕ). t ++ codes "\ncommit\n") (e6 ∙ ap (λ (t : List ℕ). t ++ address_text c) (e5 ∙ ap (λ (t : List ℕ). t ++ codes " 300 A ") (e4 ∙ ap (λ (t : List ℕ). t ++ name_text name) (e3 ∙ ap (λ (t : List ℕ). t ++ codes " A\nadd ") (e2 ∙ ap (λ (t : List ℕ). t ++ name_text name) e1)))))
    ∙ regroup_move o0 (codes "write") (codes "\n") (codes "del ") (name_text name) (codes " A") (codes "add ") (codes " 300 A ") (address_text c) (codes "commit")

regroup_removal : (o u l d n c : List ℕ) → ((o ++ ((u ++ l) ++ d)) ++ n) ++ ((l ++ c) ++ l) ≡ o ++ ((u ++ l) ++ (((d ++ n) ++ l) ++ ((c ++ l) ++ [])))
regroup_removal o u l d n c = simp (append_assoc, append-nil)

pub removal_pieces : (o0 o1 o2 o3 : List ℕ) (name : ℕ) → o1 ≡ o0 ++ codes "update\ndel " → o2 ≡ o1 ++ name_text name → o3 ≡ o2 ++ codes "\ncommit\n" → o3 ≡ o0 ++ flat_map line_text (turn_lines (Removes name))
removal_pieces o0 o1 o2 o3 name e1 e2 e3 =
    e3 ∙ ap (λ (t : List ℕ). t ++ codes "\ncommit\n") (e2 ∙ ap (λ (t : List ℕ). t ++ name_text name) e1)
    ∙ regroup_removal o0 (codes "update") (codes "\n") (codes "del ") (name_text name) (codes "commit")

-- the whole text, from its pieces
pub text_pieces : (load : Load) (o0 o1 o2 o3 o4 : List ℕ) → o0 ≡ [] → o1 ≡ o0 ++ flat_map line_text first_lines → o2 ≡ o1 ++ flat_map line_text (names_lines load.names) → o3 ≡ o2 ++ codes "%%\n" → o4 ≡ o3 ++ flat_map line_text (workers_from load load.workers 0 load.seed) → o4 ≡ made_text load
text_pieces load o0 o1 o2 o3 o4 e0 e1 e2 e3 e4 =
    let parts : made_text load ≡ (flat_map line_text first_lines ++ flat_map line_text (names_lines load.names)) ++ flat_map line_text (codes "%%" ∷ workers_from load load.workers 0 load.seed) =
    flat_map-append line_text (first_lines ++ names_lines load.names) (codes "%%" ∷ workers_from load load.workers 0 load.seed)
    ∙ ap (λ (t : List ℕ). t ++ flat_map line_text (codes "%%" ∷ workers_from load load.workers 0 load.seed)) (flat_map-append line_text first_lines (names_lines load.names)) in
    e4 ∙ ap (λ (t : List ℕ). t ++ flat_map line_text (workers_from load load.workers 0 load.seed)) (e3 ∙ ap (λ (t : List ℕ). t ++ codes "%%\n") (e2 ∙ ap (λ (t : List ℕ). t ++ flat_map line_text (names_lines load.names)) (e1 ∙ ap (λ (t : List ℕ). t ++ flat_map line_text first_lines) e0)))
    ∙ append_assoc (flat_map line_text first_lines ++ flat_map line_text (names_lines load.names)) (codes "%%\n") (flat_map line_text (workers_from load load.workers 0 load.seed))
    ∙ sym parts
