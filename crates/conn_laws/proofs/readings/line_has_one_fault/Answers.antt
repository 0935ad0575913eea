-- The faults of a line.
use Rattle.funnel.specs.LineLaws.{fault_once, good_faultless}
use Rattle.conn_laws.proofs.Waiting.{good-or-fault}
use Rattle.conn_laws.proofs.readings.line_has_one_fault.Goals as goal

pub returns-clause-either : goal.returns-clause-either
returns-clause-either c = good-or-fault

pub returns-clause-faultless : goal.returns-clause-faultless
returns-clause-faultless c = λ line token id peers fault good own has.
    good_faultless line token id peers fault good (record { has = has; own = own })

pub returns-clause-one : goal.returns-clause-one
returns-clause-one c = λ line fault other own own' has has'.
    fault_once line fault other (record { has = has; own = own }) (record { has = has'; own = own' })
