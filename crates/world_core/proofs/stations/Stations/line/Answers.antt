-- The text decides: the line is good, or malformed.
use Rattle.std.proofs.Common.{◌≡◌, ◌∙◌, ◌+◌, ◌<◌, ◌^◌, ap, refl, rules}
use Rattle.world_core.proofs.LineRead.{line_bad, line_failed, line_good, reads_bad}
use Rattle.world_core.proofs.Results.{if_err_is}
use Rattle.world_core.proofs.TapeSteps.{pushed}
use Rattle.world_core.proofs.stations.Stations.line.Goals.{in-Ok+in_ok-peers-in-Ok, in-Err}
use Rattle.world_core.proofs.stations.Stations.line.Goals as goal

pub returns-in_err-peers-in-Ok-clause-err : goal.returns-in_err-peers-in-Ok-clause-err
returns-in_err-peers-in-Ok-clause-err g c = λ past line is stands.
    let numbered : c.in-Some.number ≡ c.args.self.now.last + 1 = search rules in
    let fits : c.in-Some.number < 2 ^ 64 = search rules in
    let read = c.in-Ok.line in
    if_err_is c.from_residual-in_err-peers-in-Ok.result _ _ c.from_residual-in_err-peers-in-Ok.ensures.1
    (line_failed c.args.text.now line is past c.args.self.now c.in-Some.number stands numbered fits read.token
    read.id read.peers.items _ c.owe.new.self c.in-Ok.ensures.good (c.in_err-peers-in-Ok.ensures.err past stands))

pub returns-clause-ok : goal.returns-clause-ok
returns-clause-ok g c = λ past line is stands.
    let numbered : c.in-Some.number ≡ c.args.self.now.last + 1 = search rules in
    let fits : c.in-Some.number < 2 ^ 64 = search rules in
    elim c.match-read_line.branch [
      | in-Ok+in_ok-peers-in-Ok w ↦
          line_good c.args.text.now line is past c.args.self.now c.in-Some.number stands numbered fits
          w.in-Ok.line.token w.in-Ok.line.id w.in-Ok.line.peers.items
          w.in_ok-peers-in-Ok.peers _ w.owe.new.self _ w.in-Ok.ensures.good
          (w.in_ok-peers-in-Ok.ensures.ok past stands) w.owe.ensures.last
          (record {
            peers = ap (λ s. s.peers) w.self-is;
            intake = ap (λ s. s.intake) w.self-is;
            last = refl;
            begun =
                ap (λ s. s.begun) w.self-is;
          })
          (ap (λ v. v.items) w.outputs-is ∙ pushed _ _ _ w.push_reserved.ensures.items c.in_ok-outputs.ensures.items)
      | in-Err w ↦
          line_bad c.args.text.now line is past c.args.self.now c.in-Some.number stands numbered fits w.in-Err.fault _ _
          (reads_bad c.args.text.now w.in-Err.fault w.in-Err.ensures.too_long w.in-Err.ensures.no_token
          w.in-Err.ensures.bad_token w.in-Err.ensures.bad_id) (search rules)
          (record {
            peers = ap (λ s. s.peers) w.self-is;
            intake = ap (λ s. s.intake) w.self-is;
            last = refl;
            begun =
                ap (λ s. s.begun) w.self-is;
          })
          (ap (λ v. v.items) w.outputs-is ∙ pushed _ _ _ w.push_reserved-in-Err.ensures.items
          c.in_ok-outputs.ensures.items)
    ]
