use Rattle.std.proofs.Common.{◌≡◌, ◌∙◌, ℕ, map, sym, ap, subst, Err, Result}
use Rattle.std.proofs.lemmas.Result.{err_from_is_err_and}
use Rattle.zone_model.specs.MasterFile.{entry_says}
use Rattle.zone_text.specs.Tokens.{token_view}
use Rattle.zone_text.specs.declared.refusal.ZoneRefusal.{ZoneRefusal}
use Rattle.master_file.specs.Zones.{ReadsNext, reader_view}
use Rattle.master_file.proofs.ZoneLemmas.{lex_refused, entry_refused}
use Rattle.master_file.proofs.zones.read_next.Goals as goal

pub returns-in_err-lexed-clause-reads : goal.returns-in_err-lexed-clause-reads
returns-in_err-lexed-clause-reads c =
    let refusal = c.in_err-lexed.field-0.0 in
    let p = err_from_is_err_and c.from_residual.result c.from_residual.ensures.1 in
    let old = reader_view c.args.reader.now in
    subst (λ (r : Result (ℕ × ℕ) ZoneRefusal). ReadsNext c.args.bytes.now c.args.apex.now c.args.at c.args.line old old r) (sym (p.1 ∙ ap Err p.2))
    (λ told. lex_refused c.args.bytes.now c.args.apex.now c.args.at c.args.line refusal.line refusal.kind old c.requires.inside (c.in_err-lexed.ensures.reads told))

pub returns-in_err-read_entry-clause-reads : goal.returns-in_err-read_entry-clause-reads
returns-in_err-read_entry-clause-reads c =
    let refusal = c.in_err-read_entry.field-0.0 in
    let lexed = c.in_ok-lexed.lexed in
    let p = err_from_is_err_and c.from_residual-in_err-read_entry.result c.from_residual-in_err-read_entry.ensures.1 in
    let old = reader_view c.args.reader.now in
    subst (λ (r : Result (ℕ × ℕ) ZoneRefusal). ReadsNext c.args.bytes.now c.args.apex.now c.args.at c.args.line old (reader_view c.read_entry.new.reader) r) (sym (p.1 ∙ ap Err p.2))
    (λ told. entry_refused c.args.bytes.now c.args.apex.now c.args.at c.args.line refusal.line refusal.kind old lexed c.requires.inside c.in_ok-lexed.ensures.reads c.in_ok-lexed.ensures.lexed.blank
    (ap (λ ts. entry_says c.args.apex.now c.args.line lexed.blank (map (token_view c.args.bytes.now) ts) old) (sym c.deref.ensures.value) ∙ c.in_err-read_entry.ensures.gives told))
