use Rattle.std.proofs.Common.{rules, ◌≡◌, ◌∙◌, ℕ, length, refl, sym, ap, subst, inl, inr}
use Rattle.std.proofs.lemmas.List.{length-map}
use Rattle.trie_write.specs.Entries.{entries_of_items, entry_of}
use Rattle.qp_multi.specs.Openings.{Refuses}
use Rattle.live_session.proofs.StartLaws.{fits_by, starts_as, unfit_by}
use Rattle.live_session.proofs.serving.serve_named.Goals as goal

pub serve_opened-requires : goal.serve_opened-requires
serve_opened-requires g c = record {
  passes = c.in-Ok.ensures.opens.passes;
  two = search rules;
  first = c.requires.first;
  few = c.requires.few;
  may = λ e.
      let m = c.requires.may e in
      (entries_of_items c.args.items.now, m.0, c.in-Ok.ensures.opens.new, length-map c.args.items.now entry_of, starts_as (sym (ap (λ k. k.chunks) c.in-Ok.ensures.opens.size)) m.1, m.2 (fits_by m.1 c.in-Ok.ensures.opens.fits));
}

pub returns-in-Ok-clause-served : goal.returns-in-Ok-clause-served
returns-in-Ok-clause-served g c = λ way s.
    c.serve_opened.ensures.served (entries_of_items c.args.items.now) way c.in-Ok.ensures.opens.new (length-map c.args.items.now entry_of) (starts_as (sym (ap (λ k. k.chunks) c.in-Ok.ensures.opens.size)) s)
    (fits_by s c.in-Ok.ensures.opens.fits)

pub returns-in-Err-Full-clause-served : goal.returns-in-Err-Full-clause-served
returns-in-Err-Full-clause-served g c = λ way s.
    let told = unfit_by s c.in-Err-Full.cells c.in-Err-Full.limit (subst (Refuses c.args.blank.shared.table.shared.key.chunks (entries_of_items c.args.items.now)) c.in-Err-Full.field-0-is c.in-Err-Full.ensures.full) in search (rules, told)

pub returns-in-Err-Memory-clause-served : goal.returns-in-Err-Memory-clause-served
returns-in-Err-Memory-clause-served g c = λ way s. inr (refl, refl)

pub returns-in-Ok-clause-memory : goal.returns-in-Ok-clause-memory
returns-in-Ok-clause-memory g c = λ is. inl c.in-Ok.ensures.opens.fits

pub returns-in-Err-Memory-clause-memory : goal.returns-in-Err-Memory-clause-memory
returns-in-Err-Memory-clause-memory g c = λ is. subst (Refuses c.args.blank.shared.table.shared.key.chunks (entries_of_items c.args.items.now)) c.in-Err-Memory.field-0-is c.in-Err-Memory.ensures.full
