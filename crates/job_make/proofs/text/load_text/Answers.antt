use Rattle.std.proofs.Common.{◌≡◌, ◌∙◌, ℕ, List, length, ap, arith}
use Rattle.job_model.specs.Jobs.{job_of}
use Rattle.job_model.specs.Loads.{made_origin, made_text}
use Rattle.job_make.specs.Views.{load_view}
use Rattle.job_make.proofs.LoadLemmas.{text_pieces}
use Rattle.job_make.proofs.SizeLemmas.{made_size}
use Rattle.job_make.proofs.ZoneLines.{made_job}
use Rattle.job_make.proofs.text.load_text.Goals as goal

pub returns-clause-short : goal.returns-clause-short
returns-clause-short c =
    let text : c.push_workers.new.out.items ≡ made_text (load_view c.args.load.now) =
    text_pieces (load_view c.args.load.now) c.new-out.result.items c.extend_from_slice.new.self.items c.push_names.new.out.items c.extend_from_slice-2.new.self.items c.push_workers.new.out.items
    c.new-out.ensures.items c.in_ok-extend_from_slice.ensures.items c.in_ok-push_names.ensures c.in_ok-extend_from_slice-2.ensures.items c.in_ok-push_workers.ensures in
    let short = made_size (load_view c.args.load.now) (record { names = c.args.load.now.few_names; turns = c.args.load.now.few_turns; workers = c.args.load.now.few_workers }) in
    omega (arith, ap (λ (l : List ℕ). length l) text)

pub returns-clause-job : goal.returns-clause-job
returns-clause-job c =
    let text : c.push_workers.new.out.items ≡ made_text (load_view c.args.load.now) =
    text_pieces (load_view c.args.load.now) c.new-out.result.items c.extend_from_slice.new.self.items c.push_names.new.out.items c.extend_from_slice-2.new.self.items c.push_workers.new.out.items
    c.new-out.ensures.items c.in_ok-extend_from_slice.ensures.items c.in_ok-push_names.ensures c.in_ok-extend_from_slice-2.ensures.items c.in_ok-push_workers.ensures in
    let j = made_job (load_view c.args.load.now) (record { names = c.args.load.now.few_names; turns = c.args.load.now.few_turns; workers = c.args.load.now.few_workers }) c.args.load.now.some_workers in
    (j.job, ap (job_of made_origin) text ∙ j.said, j.many)
