use Rattle.std.proofs.Common.{◌≡◌, length, refl, subst, sym, Some}
use Rattle.std.proofs.lemmas.Option.{slice_get_read}
use Rattle.std.specs.Prelude.{slice_get}
use Rattle.recovery.specs.declared.fault.TapeFault.TheVariants.{Broken}
use Rattle.intake.specs.Errors.{IsErrorOf, IsTapeError, failed_tape, tape_fault_of}
use Rattle.intake.proofs.TapeErrors.{error_of_named}
use Rattle.intake.proofs.run_error.RunError.post.Goals as goal

pub returns-in-Some : goal.returns-in-Some
returns-in-Some c =
    let names = c.args.names.now in
    let peer = c.in-Station.peer in
    let at : slice_get names peer ≡ Some c.in-Some.name.now =
    slice_get_read names (length names) peer c.in-Some.name.now refl c.in-Some.ensures.lookup.3.0
    c.in-Some.ensures.lookup.1 in
    let is : IsTapeError c.in-Some.name.now (tape_fault_of c.in-Station.fault) c.tape.result =
    subst (λ name. IsTapeError name (tape_fault_of c.in-Station.fault) c.tape.result) c.bytes.ensures.value
    (subst (λ fault. IsTapeError c.bytes.result.now fault c.tape.result) c.tape_fault.ensures
    c.tape.ensures)
    in
    subst (λ fault. IsErrorOf (failed_tape names fault) c.tape.result) (sym c.in-Station.is)
    (error_of_named names peer c.in-Some.name.now (tape_fault_of c.in-Station.fault) c.tape.result at is)

pub returns-in-Some-get : goal.returns-in-Some-get
returns-in-Some-get c =
    let names = c.args.names.now in
    let peer = c.in-Stranger.peer in
    let at : slice_get names peer ≡ Some c.in-Some-get.name.now =
    slice_get_read names (length names) peer c.in-Some-get.name.now refl c.in-Some-get.ensures.lookup.3.0
    c.in-Some-get.ensures.lookup.1 in
    let is : IsTapeError c.in-Some-get.name.now Broken c.tape-in-Some-get.result =
    subst (λ name. IsTapeError name Broken c.tape-in-Some-get.result) c.bytes-in-Some-get.ensures.value
    c.tape-in-Some-get.ensures
    in
    subst (λ fault. IsErrorOf (failed_tape names fault) c.tape-in-Some-get.result) (sym c.in-Stranger.is)
    (error_of_named names peer c.in-Some-get.name.now Broken c.tape-in-Some-get.result at is)
