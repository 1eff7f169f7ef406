-- Operations and prerequisites as the definitions see them.
use Rattle.zone_model.specs.Versions as versions
use Rattle.zone_model.specs.Transactions as transactions
use Rattle.zone_change.specs.declared.operations.NewRecord.{NewRecord}
use Rattle.zone_change.specs.declared.operations.Operation.{Operation}
use Rattle.zone_change.specs.declared.prerequisites.Prerequisite.{Prerequisite}
use Rattle.zone_change.specs.declared.operations.Operation.TheVariants.{Add, DeleteName, DeleteSet, DeleteRecord}

abbrev pub addition_view : NewRecord → versions.Addition
addition_view a = record { owner = a.owner; rtype = a.rtype; ttl = a.ttl; octets = a.rdata }

abbrev pub operation_view : Operation → versions.Operation
operation_view (Add a) = versions.Add (addition_view a)
operation_view (DeleteName owner) = versions.DeleteName owner
operation_view (DeleteSet owner rtype) = versions.DeleteSet owner rtype
operation_view (DeleteRecord owner rtype rdata) = versions.DeleteRecord owner rtype rdata

abbrev pub prerequisite_view : Prerequisite → transactions.Prerequisite
prerequisite_view p = record { owner = p.owner; rtype = p.rtype; wanted = p.wanted }
