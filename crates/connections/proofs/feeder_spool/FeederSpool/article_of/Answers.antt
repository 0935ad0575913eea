-- What is found for a debt.
use Rattle.connections.proofs.feeder_spool.FeederSpool.article_of.Goals as goal

pub keep-requires : goal.keep-requires
keep-requires g c = ∣ (c.args.self.now.store, c.in_ok-found.ensures.given) ∣₁

pub returns : goal.returns
returns g c = ∣ (c.args.self.now.store, c.in_ok-found.ensures.given) ∣₁
