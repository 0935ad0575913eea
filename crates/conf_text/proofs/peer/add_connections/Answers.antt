use Rattle.std.proofs.Common.{◌≡◌, ℕ, List, ◌++◌, subst}
use Rattle.std.specs.Prelude.{codes, decimal}
use Rattle.conf_text.specs.ConfText.{inside, line, switch_value, text_value}
use Rattle.conf_text.proofs.Adding.{added}
use Rattle.conf_text.proofs.peer.add_connections.Goals as goal

pub returns : goal.returns
returns c =
    let peer = c.args.peer.now in
    let old = c.args.out.now.items in
    let one = c.add_text.new.out.items in
    let two = c.add_number.new.out.items in
    let three = c.add_switch.new.out.items in
    let four = c.add_number-2.new.out.items in
    let host = line inside (codes "ip-name") (text_value peer.ip_name.items) in
    let port = line inside (codes "port-number") (decimal peer.port) in
    let mode = line inside (codes "streaming") (switch_value peer.streaming) in
    let most = line inside (codes "max-connections") (decimal peer.max_connections) in
    let queue = line inside (codes "max-queue-size") (decimal peer.max_queue) in
    added old four c.add_number-3.new.out.items (host ++ port ++ mode ++ most) queue
    (added old three four (host ++ port ++ mode) most
    (added old two three (host ++ port) mode
    (added old one two host port
    (subst (λ (t : List ℕ). one ≡ old ++ line inside (codes "ip-name") (text_value t))
    c.deref.ensures.value c.in_ok-add_text.ensures)
    c.in_ok-add_number.ensures)
    c.in_ok-add_switch.ensures)
    c.in_ok-add_number-2.ensures)
    c.in_ok-add_number-3.ensures
