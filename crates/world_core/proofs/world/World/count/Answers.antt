-- There are as many peers as in the life that the world stands for.
use Rattle.std.proofs.Common.{◌≡◌, length, vec_len, sym, ap, ◌∙◌, arith}
use Rattle.world_core.proofs.NamesOverRuns.{count_at, count_stage}
use Rattle.world_core.proofs.world.World.count.Goals as goal

pub returns-in-Running : goal.returns-in-Running
returns-in-Running c = λ life stands.
    let long : vec_len c.in-Running.stations.peers ≡ length c.in-Running.stations.peers.items = omega arith in
    c.len.ensures ∙ (long ∙ (sym (ap count_at c.in-Running.is) ∙ count_stage c.args.self.now life stands))

pub returns-in-Stopped : goal.returns-in-Stopped
returns-in-Stopped c = λ life stands.
    let long : vec_len c.in-Stopped.peers ≡ length c.in-Stopped.peers.items = omega arith in
    c.len-in-Stopped.ensures ∙ (long ∙ (sym (ap count_at c.in-Stopped.is) ∙ count_stage c.args.self.now life stands))
