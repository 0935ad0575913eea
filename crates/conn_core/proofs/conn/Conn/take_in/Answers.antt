use Rattle.std.proofs.Common.{◌++◌, ap, true, ◌∙◌}
use Rattle.conn_core.specs.Left.{ReadsOne}
use Rattle.conn_core.specs.Receipt.{Stops}
use Rattle.conn_core.proofs.Reading.{ahead-start, ahead-more, fed-reads, refuses-later, stops-at-once}
use Rattle.conn_core.proofs.conn.Conn.take_in.Goals as goal

pub returns-in_err-feed-clause-err : goal.returns-in_err-feed-clause-err
returns-in_err-feed-clause-err c = refuses-later _ c.args.self.now _ c.args.octets.now (λ options unread h st running.
    stops-at-once options c.args.self.now _ unread c.args.octets.now h st running (ap (λ v. v.state) c.self.view_is))

pub loop-init : goal.loop-init
loop-init c = record {
  reads = λ options unread h st running. (
    h,
    unread ++ c.args.octets.now,
    ahead-start options (unread ++ c.args.octets.now) h,
    fed-reads options c.args.self.now _ unread c.args.octets.now h st running (rw (← c.self.view_is) c.in_ok-feed.ensures.fed) (ap (λ v. v.state) c.self.view_is),
  );
  same_id = ap (λ v. v.id) c.self.view_is;
}

pub returns-in_err-read_one-clause-err : goal.returns-in_err-read_one-clause-err
returns-in_err-read_one-clause-err c = refuses-later _ c.args.self.now c.read_one.new.self c.args.octets.now (λ options unread h st running.
    let read = c.loop.invariant.reads options unread h st running in
    (read.0, read.2.some read.0 (Stops read.1 read.0 read.3.left_open.running), c.in_err-read_one.ensures.err options read.1 read.0 read.3))

pub loop-preserved : goal.loop-preserved
loop-preserved c = record {
  reads = λ options unread h st running.
      let read = c.loop.invariant.reads options unread h st running in
      let one : ReadsOne options read.1 read.0 c.read_one.new.self true = rw c.if-branch.true at (c.in_ok-read_one.ensures.read options read.1 read.0 read.3) in
      (_, one.1, ahead-more options (unread ++ c.args.octets.now) read.1 one.1 h read.0 one.0 read.2 read.3.left_open.running one.2, one.3);
  same_id = c.in_ok-read_one.ensures.same_id ∙ c.loop.invariant.same_id;
}
