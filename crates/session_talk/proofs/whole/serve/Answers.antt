use Rattle.std.proofs.Common.{rules, ◌∙◌, [], arith, sym, ap, inl}
use Rattle.session_talk.proofs.ServeLaws.{begun_so_far, begun_stands, begun_work, err_left, grows_front, on_err}
use Rattle.session_talk.proofs.whole.serve.Goals as goal

pub serve_begun-requires : goal.serve_begun-requires
serve_begun-requires g c = record {
  sound = c.in_ok-put.ensures.goes_on.sound;
  few = omega (arith, c.requires.few, c.in_ok-answering.ensures.begun.1, c.in_ok-put.ensures.goes_on.lines);
  may = λ goes_on.
      let m = c.requires.may goes_on in
      let b = m.1 in
      let h = begun_so_far b (c.in_ok-answering.ensures.so_far m.0.opened b.origin_is b.names_are b.ran) in
      record { way = m.0; same = b.origin_is ∙ sym c.in_ok-answering.ensures.begun.0 ∙ ap (λ x. x.now) (sym c.in_ok-put.ensures.goes_on.origin); at_work = begun_work b _ _ _ _ _ _ c.in_ok-put.ensures.writes.ok (c.in_ok-put.ensures.puts.so_far m.0.opened m.0.first [] [] h); may = m.2 };
}

pub returns-clause-serves : goal.returns-clause-serves
returns-clause-serves g c = record {
  ok = λ way b.
      let h = begun_so_far b (c.in_ok-answering.ensures.so_far way.opened b.origin_is b.names_are b.ran) in
      c.serve_begun.ensures.serves.ok way (b.origin_is ∙ sym c.in_ok-answering.ensures.begun.0 ∙ ap (λ x. x.now) (sym c.in_ok-put.ensures.goes_on.origin)) (begun_work b _ _ _ _ _ _ c.in_ok-put.ensures.writes.ok (c.in_ok-put.ensures.puts.so_far way.opened way.first [] [] h));
  stands = λ way b.
      let h = begun_so_far b (c.in_ok-answering.ensures.so_far way.opened b.origin_is b.names_are b.ran) in
      err_left _ _ c.serve_begun.result
      (c.serve_begun.ensures.serves.stands way (b.origin_is ∙ sym c.in_ok-answering.ensures.begun.0 ∙ ap (λ x. x.now) (sym c.in_ok-put.ensures.goes_on.origin)) (begun_work b _ _ _ _ _ _ c.in_ok-put.ensures.writes.ok (c.in_ok-put.ensures.puts.so_far way.opened way.first [] [] h))
      (begun_stands b _ _ (grows_front _ _ _ c.in_ok-put.ensures.writes.ok) (c.in_ok-put.ensures.puts.answers way.opened way.first [] [] h)));
  settled = λ is way b.
      let h = begun_so_far b (c.in_ok-answering.ensures.so_far way.opened b.origin_is b.names_are b.ran) in
      c.serve_begun.ensures.serves.settled is way (b.origin_is ∙ sym c.in_ok-answering.ensures.begun.0 ∙ ap (λ x. x.now) (sym c.in_ok-put.ensures.goes_on.origin)) (begun_work b _ _ _ _ _ _ c.in_ok-put.ensures.writes.ok (c.in_ok-put.ensures.puts.so_far way.opened way.first [] [] h));
  too_long = λ is way b.
      let h = begun_so_far b (c.in_ok-answering.ensures.so_far way.opened b.origin_is b.names_are b.ran) in
      c.serve_begun.ensures.serves.too_long is way (b.origin_is ∙ sym c.in_ok-answering.ensures.begun.0 ∙ ap (λ x. x.now) (sym c.in_ok-put.ensures.goes_on.origin)) (begun_work b _ _ _ _ _ _ c.in_ok-put.ensures.writes.ok (c.in_ok-put.ensures.puts.so_far way.opened way.first [] [] h));
}

pub returns-in_err-put-clause-serves : goal.returns-in_err-put-clause-serves
returns-in_err-put-clause-serves g c = record {
  ok = search rules;
  stands = λ way b.
      let h = begun_so_far b (c.in_ok-answering.ensures.so_far way.opened b.origin_is b.names_are b.ran) in
      on_err c.from_residual-in_err-put.result (inl (begun_stands b _ _ c.in_err-put.ensures.writes.err (c.in_err-put.ensures.puts.answers way.opened way.first [] [] h)));
  settled = search rules;
  too_long = search rules;
}

pub returns-clause-memory : goal.returns-clause-memory
returns-clause-memory g c = λ is. inl (c.serve_begun.ensures.memory is)
