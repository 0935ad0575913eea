-- A loop that takes lines while there are any; an error counts as none.
use Rattle.std.proofs.Common.{◌≡◌, ℕ, List, ◌++◌, Option, Some, None, Result, Ok, Err, sym, subst}
use Rattle.std.specs.Option.{IfSome, IfNone}
use Rattle.std.specs.Result.{IfOk, IfErr, result_unwrap_or}
use Rattle.dot_codec.specs.Block.{end_of_block}
use Rattle.dot_codec.specs.Fault.{IsFaultyLine}
use Rattle.dot_codec.specs.declared.fault.BlockFault.{BlockFault}
use Rattle.dot_codec.specs.declared.scan.Line.{Line}
use Rattle.dot_codec.proofs.Counts.{HasLineForm}
use Rattle.dot_codec.proofs.Faults.{faulty_is_final}
use Rattle.dot_codec.proofs.Forms.{IsFinal, end_is_final}

pub line_told : (octets : List ℕ) (next : Result (Option Line) BlockFault) (line : Line) → IfOk next (λ o. IfSome o (λ l. HasLineForm octets l.octets.now l.rest.now)) → result_unwrap_or next None ≡ Some line → HasLineForm octets line.octets.now line.rest.now
line_told octets (Ok (Some l)) line told is =
    let same : l ≡ line = cc in
    subst (λ (k : Line). HasLineForm octets k.octets.now k.rest.now) same told
line_told octets (Ok None) line told is = cc
line_told octets (Err e) line told is = cc

pub end_told : (octets : List ℕ) (next : Result (Option Line) BlockFault) → IfOk next (λ o. IfNone o ((behind : List ℕ) × (octets ≡ end_of_block ++ behind))) → IfErr next (λ fault. IsFaultyLine fault octets) → result_unwrap_or next None ≡ None → IsFinal octets
end_told octets (Ok (Some l)) end fault is = cc
end_told octets (Ok None) (behind, end) fault is = subst IsFinal (sym end) (end_is_final behind)
end_told octets (Err e) end fault is = faulty_is_final e octets fault
