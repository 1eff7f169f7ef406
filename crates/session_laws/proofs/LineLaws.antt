-- What is due for more lines begins with what is due for the first.
use Rattle.std.proofs.Common.{◌≡◌, ◌∙◌, ℕ, ◌+◌, Bool, List, [], ◌∷◌, ◌++◌, length, map, refl, sym, ap, subst, append_assoc}
use Rattle.zone_model.specs.Names.{Name}
use Rattle.zone_model.specs.Versions.{Version}
use Rattle.job_model.specs.Feeds.{passes_fed}
use Rattle.job_model.specs.Outcomes.{Lawful, Pair}
use Rattle.job_model.specs.Reports.{end_text}
use Rattle.job_model.specs.Sessions.{Answered, Ended, Replied, Reply, Said, Session, all_said, first_session, left_open, pairs_in, said_of, session_line, session_lines, session_text, versions_in}
use Rattle.session_laws.specs.Fronts.{BeginsAnswered}
use Rattle.session_laws.proofs.FirstLaws.{first_lawful}
use Rattle.session_laws.proofs.FrontLaws.{begins_with, pairs-append}

-- the replies to what was said first, and those behind them
record Parts (said : List Said) (replies : List Reply) : Type 0 where
  front : List Reply
  back : List Reply
  is : replies ≡ front ++ back
  same : map said_of front ≡ said

parts : (said more : List Said) (replies : List Reply) → map said_of replies ≡ said ++ more → Parts said replies
parts [] more replies e = record { front = []; back = replies; is = refl; same = refl }
parts (x ∷ said) more [] e = absurd cc
parts (x ∷ said) more (reply ∷ replies) e =
    let first : said_of reply ≡ x = cc in
    let others : map said_of replies ≡ said ++ more = cc in
    let rest = parts said more replies others in
    record { front = reply ∷ rest.front; back = rest.back; is = ap (λ (l : List Reply). reply ∷ l) rest.is; same = ap (λ (l : List Said). said_of reply ∷ l) rest.same ∙ ap (λ (s : Said). s ∷ said) first }

front_of : (chunks : ℕ) (origin : Name) (zone : Version) (said more : List Said) (replies : List Reply) (last : ℕ) → Replied chunks origin zone (said ++ more) replies last
    → BeginsAnswered chunks origin zone said (session_text origin zone replies)
front_of chunks origin zone said more replies last h =
    let p = parts said more replies h.same in
    let pairs : pairs_in replies ≡ pairs_in p.front ++ pairs_in p.back = ap pairs_in p.is ∙ pairs-append p.front p.back in
    let first = first_lawful chunks (passes_fed 1) origin zone (pairs_in p.front) (pairs_in p.back) last (subst (λ (l : List Pair). Lawful chunks (passes_fed 1) origin zone (l ∷ []) last) pairs h.lawful) in
    let replied : Replied chunks origin zone said p.front first.0 = record { same = p.same; lawful = first.1 } in
    let begins = begins_with chunks origin zone said p.front p.back first.0 replied in
    (session_text origin zone p.front, begins.0, ap (session_text origin zone) p.is ∙ begins.1, record { replies = p.front; last = first.0; replied = replied; is = refl })

-- more behind it
longer : (chunks : ℕ) (origin : Name) (zone : Version) (said : List Said) (text whole back : List ℕ) → whole ≡ text ++ back → BeginsAnswered chunks origin zone said text → BeginsAnswered chunks origin zone said whole
longer chunks origin zone said text whole back e h = (h.0, h.1 ++ back, e ∙ ap (λ (l : List ℕ). l ++ back) h.2 ∙ append_assoc h.0 h.1 back, h.3)

same_front : (chunks : ℕ) (origin : Name) (zone : Version) (said : List Said) (text whole : List ℕ) → whole ≡ text → BeginsAnswered chunks origin zone said text → BeginsAnswered chunks origin zone said whole
same_front chunks origin zone said text whole e h = (h.0, h.1, e ∙ h.2, h.3)

-- ---- lines

record SaysMore (first whole : List Said) : Type 0 where
  more : List Said
  is : whole ≡ first ++ more

says_more : (origin : Name) (n : ℕ) (lines others : List (List ℕ)) (s : Session) → SaysMore (session_lines origin n lines s).said (session_lines origin n (lines ++ others) s).said
unfolding session_lines
says_more origin n [] others s = record { more = (session_lines origin n others s).said; is = refl }
says_more origin n (line ∷ lines) others s =
    let first = session_line origin n line s in
    let rest = says_more origin (n + 1) lines others first.session in
    record { more = rest.more; is = ap (λ (l : List Said). first.said ++ l) rest.is ∙ sym (append_assoc first.said (session_lines origin (n + 1) lines first.session).said rest.more) }

module _ (chunks : ℕ) (origin : Name) (zone : Version) (start : ℕ) (lines others : List (List ℕ)) where
  pub answered_front : (text : List ℕ) → Answered chunks origin zone (session_lines origin start (lines ++ others) first_session).said text
      → BeginsAnswered chunks origin zone (session_lines origin start lines first_session).said text
  answered_front text h =
      let says = says_more origin start lines others first_session in
      same_front chunks origin zone (session_lines origin start lines first_session).said (session_text origin zone h.replies) text h.is
      (front_of chunks origin zone (session_lines origin start lines first_session).said says.more h.replies h.last (subst (λ (l : List Said). Replied chunks origin zone l h.replies h.last) says.is h.replied))

  pub ended_front : (refused : Bool) (text : List ℕ) → Ended chunks origin zone (all_said (session_lines origin start (lines ++ others) first_session)) refused text
      → BeginsAnswered chunks origin zone (session_lines origin start lines first_session).said text
  ended_front refused text h =
      let says = says_more origin start lines others first_session in
      let end = session_lines origin start (lines ++ others) first_session in
      let open' = left_open end.session.opened end.session.block in
      let whole = ap (λ (l : List Said). l ++ open') says.is ∙ append_assoc (session_lines origin start lines first_session).said says.more open' in
      longer chunks origin zone (session_lines origin start lines first_session).said (session_text origin zone h.replies) text (end_text h.last (length (versions_in origin zone h.replies h.last))) h.is
      (front_of chunks origin zone (session_lines origin start lines first_session).said (says.more ++ open') h.replies h.last (subst (λ (l : List Said). Replied chunks origin zone l h.replies h.last) whole h.replied))
