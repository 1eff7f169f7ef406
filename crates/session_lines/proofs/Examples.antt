-- Sessions that are worked out.
use Rattle.std.proofs.Common.{◌≡◌, [], ◌∷◌, refl, codes}
use Rattle.job_model.specs.declared.ScriptKind.TheVariants.{BadCommand, OpenBlock}
use Rattle.job_model.specs.Commands.{Compact, Hold, Release}
use Rattle.zone_model.specs.Tokens.{line_end, line_tokens, step, steps}
use Rattle.job_model.specs.Questions.{asked_of}
use Rattle.job_model.specs.Phrases.{phrase_of}
use Rattle.job_model.specs.Jobs.{script_line}
use Rattle.job_model.specs.Sessions.{Runs, Refuses, GivesUp, all_said, first_session, session_line, session_lines}

-- a snapshot is taken and given back; a line without tokens says nothing
held : all_said (session_lines [] 5 (codes "hold" ∷ codes "" ∷ codes "release" ∷ codes "compact" ∷ []) first_session) ≡ Runs Hold ∷ Runs Release ∷ Runs Compact ∷ []
unfolding session_lines session_line script_line phrase_of asked_of line_tokens steps step line_end
held = refl

-- a refused line gives up what is open, up to its last word
given_up : all_said (session_lines [] 5 (codes "write" ∷ codes "hold" ∷ codes "anything" ∷ codes "commit" ∷ codes "hold" ∷ []) first_session) ≡ Refuses 6 BadCommand ∷ GivesUp ∷ Runs Hold ∷ []
unfolding session_lines session_line script_line phrase_of asked_of line_tokens steps step line_end
given_up = refl

-- it may be the last word itself
last_word : all_said (session_lines [] 5 (codes "write" ∷ codes "rollback" ∷ codes "commit" ∷ []) first_session) ≡ Refuses 6 BadCommand ∷ GivesUp ∷ Refuses 7 BadCommand ∷ []
unfolding session_lines session_line script_line phrase_of asked_of line_tokens steps step line_end
last_word = refl

-- what is open at the end is refused by its first line
left : all_said (session_lines [] 5 (codes "compact" ∷ codes "write" ∷ []) first_session) ≡ Runs Compact ∷ Refuses 6 OpenBlock ∷ []
unfolding session_lines session_line script_line phrase_of asked_of line_tokens steps step line_end
left = refl
