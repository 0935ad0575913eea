use Rattle.std.proofs.Common.{ℕ, List, [], ◌∷◌, ◌++◌}
use Rattle.status.specs.Report.{left, number}
use Rattle.status.proofs.Parts.{both, prefix_after, prefix_before, on_err, on_err_map, on_ok_map}
use Rattle.status.proofs.lines.put_peer.Goals as goal

pub returns-in_err-put_name-clause-prefix : goal.returns-in_err-put_name-clause-prefix
returns-in_err-put_name-clause-prefix g c =
    let contents = g.W.Write.contents in
    let peer = c.args.peer.now in
    let rest-5 : List ℕ = 10 ∷ [] in
    let rest-4 = number 12 peer.totals.owed_bytes ++ rest-5 in
    let rest-3 = number 10 peer.totals.owed ++ rest-4 in
    let rest-2 = number 10 peer.totals.dropped ++ rest-3 in
    let rest-1 = number 10 peer.totals.answered ++ rest-2 in
    let rest-0 = number 10 peer.totals.taken ++ rest-1 in
    on_err c.from_residual.result (
    prefix_before (contents c.args.out.now) (contents c.put_name.new.out)
    (left 20 peer.name.now) rest-0 c.in_err-put_name.ensures.prefix)

pub returns-in_err-put_number-clause-prefix : goal.returns-in_err-put_number-clause-prefix
returns-in_err-put_number-clause-prefix g c =
    let contents = g.W.Write.contents in
    let peer = c.args.peer.now in
    let rest-5 : List ℕ = 10 ∷ [] in
    let rest-4 = number 12 peer.totals.owed_bytes ++ rest-5 in
    let rest-3 = number 10 peer.totals.owed ++ rest-4 in
    let rest-2 = number 10 peer.totals.dropped ++ rest-3 in
    let rest-1 = number 10 peer.totals.answered ++ rest-2 in
    let rest-0 = number 10 peer.totals.taken ++ rest-1 in
    on_err c.from_residual-in_err-put_number.result (
    prefix_after (contents c.args.out.now) (contents c.put_name.new.out) (contents c.put_number.new.out)
    (left 20 peer.name.now) rest-0 c.in_ok-put_name.ensures.whole (
    prefix_before (contents c.put_name.new.out) (contents c.put_number.new.out)
    (number 10 peer.totals.taken) rest-1 c.in_err-put_number.ensures.prefix))

pub returns-in_err-put_number-2-clause-prefix : goal.returns-in_err-put_number-2-clause-prefix
returns-in_err-put_number-2-clause-prefix g c =
    let contents = g.W.Write.contents in
    let peer = c.args.peer.now in
    let rest-5 : List ℕ = 10 ∷ [] in
    let rest-4 = number 12 peer.totals.owed_bytes ++ rest-5 in
    let rest-3 = number 10 peer.totals.owed ++ rest-4 in
    let rest-2 = number 10 peer.totals.dropped ++ rest-3 in
    let rest-1 = number 10 peer.totals.answered ++ rest-2 in
    let rest-0 = number 10 peer.totals.taken ++ rest-1 in
    on_err c.from_residual-in_err-put_number-2.result (
    prefix_after (contents c.args.out.now) (contents c.put_name.new.out) (contents c.put_number-2.new.out)
    (left 20 peer.name.now) rest-0 c.in_ok-put_name.ensures.whole (
    prefix_after (contents c.put_name.new.out) (contents c.put_number.new.out) (contents c.put_number-2.new.out)
    (number 10 peer.totals.taken) rest-1 c.in_ok-put_number.ensures.whole (
    prefix_before (contents c.put_number.new.out) (contents c.put_number-2.new.out)
    (number 10 peer.totals.answered) rest-2 c.in_err-put_number-2.ensures.prefix)))

pub returns-in_err-put_number-3-clause-prefix : goal.returns-in_err-put_number-3-clause-prefix
returns-in_err-put_number-3-clause-prefix g c =
    let contents = g.W.Write.contents in
    let peer = c.args.peer.now in
    let rest-5 : List ℕ = 10 ∷ [] in
    let rest-4 = number 12 peer.totals.owed_bytes ++ rest-5 in
    let rest-3 = number 10 peer.totals.owed ++ rest-4 in
    let rest-2 = number 10 peer.totals.dropped ++ rest-3 in
    let rest-1 = number 10 peer.totals.answered ++ rest-2 in
    let rest-0 = number 10 peer.totals.taken ++ rest-1 in
    on_err c.from_residual-in_err-put_number-3.result (
    prefix_after (contents c.args.out.now) (contents c.put_name.new.out) (contents c.put_number-3.new.out)
    (left 20 peer.name.now) rest-0 c.in_ok-put_name.ensures.whole (
    prefix_after (contents c.put_name.new.out) (contents c.put_number.new.out) (contents c.put_number-3.new.out)
    (number 10 peer.totals.taken) rest-1 c.in_ok-put_number.ensures.whole (
    prefix_after (contents c.put_number.new.out) (contents c.put_number-2.new.out) (contents c.put_number-3.new.out)
    (number 10 peer.totals.answered) rest-2 c.in_ok-put_number-2.ensures.whole (
    prefix_before (contents c.put_number-2.new.out) (contents c.put_number-3.new.out)
    (number 10 peer.totals.dropped) rest-3 c.in_err-put_number-3.ensures.prefix))))

pub returns-in_err-put_number-4-clause-prefix : goal.returns-in_err-put_number-4-clause-prefix
returns-in_err-put_number-4-clause-prefix g c =
    let contents = g.W.Write.contents in
    let peer = c.args.peer.now in
    let rest-5 : List ℕ = 10 ∷ [] in
    let rest-4 = number 12 peer.totals.owed_bytes ++ rest-5 in
    let rest-3 = number 10 peer.totals.owed ++ rest-4 in
    let rest-2 = number 10 peer.totals.dropped ++ rest-3 in
    let rest-1 = number 10 peer.totals.answered ++ rest-2 in
    let rest-0 = number 10 peer.totals.taken ++ rest-1 in
    on_err c.from_residual-in_err-put_number-4.result (
    prefix_after (contents c.args.out.now) (contents c.put_name.new.out) (contents c.put_number-4.new.out)
    (left 20 peer.name.now) rest-0 c.in_ok-put_name.ensures.whole (
    prefix_after (contents c.put_name.new.out) (contents c.put_number.new.out) (contents c.put_number-4.new.out)
    (number 10 peer.totals.taken) rest-1 c.in_ok-put_number.ensures.whole (
    prefix_after (contents c.put_number.new.out) (contents c.put_number-2.new.out) (contents c.put_number-4.new.out)
    (number 10 peer.totals.answered) rest-2 c.in_ok-put_number-2.ensures.whole (
    prefix_after (contents c.put_number-2.new.out) (contents c.put_number-3.new.out) (contents c.put_number-4.new.out)
    (number 10 peer.totals.dropped) rest-3 c.in_ok-put_number-3.ensures.whole (
    prefix_before (contents c.put_number-3.new.out) (contents c.put_number-4.new.out)
    (number 10 peer.totals.owed) rest-4 c.in_err-put_number-4.ensures.prefix)))))

pub returns-in_err-put_number-5-clause-prefix : goal.returns-in_err-put_number-5-clause-prefix
returns-in_err-put_number-5-clause-prefix g c =
    let contents = g.W.Write.contents in
    let peer = c.args.peer.now in
    let rest-5 : List ℕ = 10 ∷ [] in
    let rest-4 = number 12 peer.totals.owed_bytes ++ rest-5 in
    let rest-3 = number 10 peer.totals.owed ++ rest-4 in
    let rest-2 = number 10 peer.totals.dropped ++ rest-3 in
    let rest-1 = number 10 peer.totals.answered ++ rest-2 in
    let rest-0 = number 10 peer.totals.taken ++ rest-1 in
    on_err c.from_residual-in_err-put_number-5.result (
    prefix_after (contents c.args.out.now) (contents c.put_name.new.out) (contents c.put_number-5.new.out)
    (left 20 peer.name.now) rest-0 c.in_ok-put_name.ensures.whole (
    prefix_after (contents c.put_name.new.out) (contents c.put_number.new.out) (contents c.put_number-5.new.out)
    (number 10 peer.totals.taken) rest-1 c.in_ok-put_number.ensures.whole (
    prefix_after (contents c.put_number.new.out) (contents c.put_number-2.new.out) (contents c.put_number-5.new.out)
    (number 10 peer.totals.answered) rest-2 c.in_ok-put_number-2.ensures.whole (
    prefix_after (contents c.put_number-2.new.out) (contents c.put_number-3.new.out) (contents c.put_number-5.new.out)
    (number 10 peer.totals.dropped) rest-3 c.in_ok-put_number-3.ensures.whole (
    prefix_after (contents c.put_number-3.new.out) (contents c.put_number-4.new.out) (contents c.put_number-5.new.out)
    (number 10 peer.totals.owed) rest-4 c.in_ok-put_number-4.ensures.whole (
    prefix_before (contents c.put_number-4.new.out) (contents c.put_number-5.new.out)
    (number 12 peer.totals.owed_bytes) rest-5 c.in_err-put_number-5.ensures.prefix))))))

pub returns-clause-whole : goal.returns-clause-whole
returns-clause-whole g c =
    let contents = g.W.Write.contents in
    let peer = c.args.peer.now in
    let rest-5 : List ℕ = 10 ∷ [] in
    let rest-4 = number 12 peer.totals.owed_bytes ++ rest-5 in
    let rest-3 = number 10 peer.totals.owed ++ rest-4 in
    let rest-2 = number 10 peer.totals.dropped ++ rest-3 in
    let rest-1 = number 10 peer.totals.answered ++ rest-2 in
    let rest-0 = number 10 peer.totals.taken ++ rest-1 in
    on_ok_map c.put.result (λ h.
    both (contents c.args.out.now) (contents c.put_name.new.out) (contents c.put.new.out)
    (left 20 peer.name.now) rest-0 c.in_ok-put_name.ensures.whole (
    both (contents c.put_name.new.out) (contents c.put_number.new.out) (contents c.put.new.out)
    (number 10 peer.totals.taken) rest-1 c.in_ok-put_number.ensures.whole (
    both (contents c.put_number.new.out) (contents c.put_number-2.new.out) (contents c.put.new.out)
    (number 10 peer.totals.answered) rest-2 c.in_ok-put_number-2.ensures.whole (
    both (contents c.put_number-2.new.out) (contents c.put_number-3.new.out) (contents c.put.new.out)
    (number 10 peer.totals.dropped) rest-3 c.in_ok-put_number-3.ensures.whole (
    both (contents c.put_number-3.new.out) (contents c.put_number-4.new.out) (contents c.put.new.out)
    (number 10 peer.totals.owed) rest-4 c.in_ok-put_number-4.ensures.whole (
    both (contents c.put_number-4.new.out) (contents c.put_number-5.new.out) (contents c.put.new.out)
    (number 12 peer.totals.owed_bytes) rest-5 c.in_ok-put_number-5.ensures.whole h)))))) c.put.ensures.whole

pub returns-clause-prefix : goal.returns-clause-prefix
returns-clause-prefix g c =
    let contents = g.W.Write.contents in
    let peer = c.args.peer.now in
    let rest-5 : List ℕ = 10 ∷ [] in
    let rest-4 = number 12 peer.totals.owed_bytes ++ rest-5 in
    let rest-3 = number 10 peer.totals.owed ++ rest-4 in
    let rest-2 = number 10 peer.totals.dropped ++ rest-3 in
    let rest-1 = number 10 peer.totals.answered ++ rest-2 in
    let rest-0 = number 10 peer.totals.taken ++ rest-1 in
    on_err_map c.put.result (λ h.
    prefix_after (contents c.args.out.now) (contents c.put_name.new.out) (contents c.put.new.out)
    (left 20 peer.name.now) rest-0 c.in_ok-put_name.ensures.whole (
    prefix_after (contents c.put_name.new.out) (contents c.put_number.new.out) (contents c.put.new.out)
    (number 10 peer.totals.taken) rest-1 c.in_ok-put_number.ensures.whole (
    prefix_after (contents c.put_number.new.out) (contents c.put_number-2.new.out) (contents c.put.new.out)
    (number 10 peer.totals.answered) rest-2 c.in_ok-put_number-2.ensures.whole (
    prefix_after (contents c.put_number-2.new.out) (contents c.put_number-3.new.out) (contents c.put.new.out)
    (number 10 peer.totals.dropped) rest-3 c.in_ok-put_number-3.ensures.whole (
    prefix_after (contents c.put_number-3.new.out) (contents c.put_number-4.new.out) (contents c.put.new.out)
    (number 10 peer.totals.owed) rest-4 c.in_ok-put_number-4.ensures.whole (
    prefix_after (contents c.put_number-4.new.out) (contents c.put_number-5.new.out) (contents c.put.new.out)
    (number 12 peer.totals.owed_bytes) rest-5 c.in_ok-put_number-5.ensures.whole h)))))) c.put.ensures.prefix
