use Rattle.std.proofs.Common.{ℕ, ap, ◌∙◌, take}
use Rattle.std.specs.Prelude.{filter, nat_lt}
use Rattle.peer_queue.specs.DebtPlace.{unheld}
use Rattle.peer_queue.specs.Front.{places_of}
use Rattle.peer_queue.specs.declared.front.Front.{Front}
use Rattle.flusher.specs.Ahead.{wanted_behind}
use Rattle.flusher.specs.ReadAhead.{end_in, kept_in}
use Rattle.flusher.proofs.front_desk.FrontDesk.keys_ahead.Goals as goal

pub returns-clause-keys : goal.returns-clause-keys
returns-clause-keys g c =
    let ahead = c.args.self.now.ahead in
    let front = c.front-front.result.now in
    c.in_ok-keys.ensures
    ∙ ap (λ (most : ℕ). take most (filter (λ (key : ℕ). nat_lt c.end.result key) (unheld (places_of front))))
    c.wanted.ensures
    ∙ ap (λ (end : ℕ). take (wanted_behind (kept_in ahead)) (filter (λ (key : ℕ). nat_lt end key)
    (unheld (places_of front)))) c.end.ensures
    ∙ ap (λ (f : Front). take (wanted_behind (kept_in ahead)) (filter (λ (key : ℕ). nat_lt (end_in ahead) key)
    (unheld (places_of f)))) c.front-front.ensures
