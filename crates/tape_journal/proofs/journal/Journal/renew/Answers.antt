use Rattle.std.proofs.Common.{◌<◌, ℕ, length, inl, subst, sym, ap, arith}
use Rattle.std.proofs.lemmas.List.{length-map}
use Rattle.std.specs.Prelude.{Vec, map, vec_items}
use Rattle.std.specs.declared.alloc.Global.{Global}
use Rattle.disk_model.specs.Disk.Leaves.{at_start}
use Rattle.tape_journal.proofs.Renewing.{records_some}
use Rattle.tape_journal.proofs.journal.Journal.renew.Goals as goal

pub returns-in-Err-clause-err : goal.returns-in-Err-clause-err
returns-in-Err-clause-err g c = λ honest. record {
  honest = honest;
  moments = at_start (λ x is. inl is);
}

pub renew_on-requires : goal.renew_on-requires
renew_on-requires g c =
    let payloads = map vec_items c.args.payloads.now in
    let some : 0 < length payloads =
    omega (arith, c.requires.some, length-map c.args.payloads.now (λ (v : Vec ℕ Global). v.items)) in
    record { some = omega (arith, records_some payloads some, ap length c.in-Ok.ensures.ok.records) }
