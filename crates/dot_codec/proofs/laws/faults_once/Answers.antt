use Rattle.std.proofs.Common.{◌++◌, refl}
use Rattle.dot_codec.proofs.Faults.{fault_once, form_has_no_fault}
use Rattle.dot_codec.proofs.laws.faults_once.Goals as goal

pub returns-clause-once : goal.returns-clause-once
returns-clause-once c = λ octets a b has_a has_b. fault_once a b octets has_a has_b

pub returns-clause-never : goal.returns-clause-never
returns-clause-never c = λ lines form rest fault read has. form_has_no_fault fault lines (form ++ rest) form rest read refl has
