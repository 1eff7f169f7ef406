use Rattle.shift_key.proofs.LeadLemmas.{leads_once, leads_front, front_leads}
use Rattle.shift_key.proofs.laws.items_tell_their_keys.Goals as goal

pub returns-clause-once : goal.returns-clause-once
returns-clause-once c = leads_once

pub returns-clause-front : goal.returns-clause-front
returns-clause-front c = λ key item short. (leads_front key item, front_leads key item short)
