use Rattle.std.proofs.Common.{◌∙◌, [], IfSome, Option, ap, sym, subst, append-nil}
use Rattle.zone_model.specs.Names.{Name, wire, IsName, BeginsWith}
use Rattle.zone_model.specs.Keys.{key_of}
use Rattle.dns_name.proofs.ScanLemmas.{begins_once}
use Rattle.shift_key.proofs.Key.to_name.Goals as goal

pub returns : goal.returns
returns c =
    let octets = c.wire.result.now in
    let name = subst (λ (r : Option Name). IfSome r IsName) c.unwrap.ensures c.from_wire.ensures.name in
    let found = subst (λ (r : Option Name). IfSome r (BeginsWith octets)) c.unwrap.ensures c.from_wire.ensures.found in
    let own : BeginsWith octets c.self.inside.name = ([], c.wire.ensures.wire ∙ sym (append-nil (wire c.self.inside.name))) in
    ap key_of (begins_once octets c.unwrap.result c.self.inside.name name.each c.self.invariant.name.each found own) ∙ c.self.view_is
