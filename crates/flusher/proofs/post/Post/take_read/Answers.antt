use Rattle.std.proofs.Common.{rules, arith}
use Rattle.funnel.specs.declared.line.LineFault.TheVariants.{TooLong, NoToken, BadToken, BadId}
use Rattle.flusher.specs.declared.fault.PostFault.TheVariants.{NoMemory}
use Rattle.flusher.specs.Marks.{RefusesGood, RefusesLine}
use Rattle.flusher.proofs.Rises.{rises_same}
use Rattle.flusher.proofs.Lines.{raised_good, raised_bad, refused_good, refused_unasked, on_ok, on_err}
use Rattle.flusher.proofs.post.Post.take_read.Goals as goal

pub returns-in-Ok-clause-raised : goal.returns-in-Ok-clause-raised
returns-in-Ok-clause-raised g c =
    on_ok c.take_good.result (raised_good c.args.number c.args.line.now _ _ c.in-Ok.line.peers.items
    c.args.self.now.names c.args.marks.now.items c.take_good.new.marks.items c.in-Ok.ensures.good)
    c.take_good.ensures.raised

pub returns-in-Err-TooLong : goal.returns-in-Err-TooLong
returns-in-Err-TooLong g c =
    let e = rises_same c.args.marks.now.items in
    record {
      marks = search rules;
      raised =
          raised_bad c.args.number c.args.line.now TooLong c.args.self.now.names c.args.marks.now.items (λ e. cc)
          (c.read_line.ensures.too_long.0 (search rules));
      counted = omega (arith, e);
      refuses = search rules;
      part = c.requires.part;
    }

pub returns-in-Err-NoToken : goal.returns-in-Err-NoToken
returns-in-Err-NoToken g c =
    let e = rises_same c.args.marks.now.items in
    record {
      marks = search rules;
      raised =
          raised_bad c.args.number c.args.line.now NoToken c.args.self.now.names c.args.marks.now.items (λ e. cc)
          (c.read_line.ensures.no_token.0 (search rules));
      counted = omega (arith, e);
      refuses = search rules;
      part = c.requires.part;
    }

pub returns-in-Err-BadToken : goal.returns-in-Err-BadToken
returns-in-Err-BadToken g c =
    let e = rises_same c.args.marks.now.items in
    record {
      marks = search rules;
      raised =
          raised_bad c.args.number c.args.line.now BadToken c.args.self.now.names c.args.marks.now.items (λ e. cc)
          (c.read_line.ensures.bad_token.0 (search rules));
      counted = omega (arith, e);
      refuses = search rules;
      part = c.requires.part;
    }

pub returns-in-Err-BadId : goal.returns-in-Err-BadId
returns-in-Err-BadId g c =
    let e = rises_same c.args.marks.now.items in
    record {
      marks = search rules;
      raised =
          raised_bad c.args.number c.args.line.now BadId c.args.self.now.names c.args.marks.now.items (λ e. cc)
          (c.read_line.ensures.bad_id.0 (search rules));
      counted = omega (arith, e);
      refuses = search rules;
      part = c.requires.part;
    }

pub returns-in-Ok-clause-refuses : goal.returns-in-Ok-clause-refuses
returns-in-Ok-clause-refuses g c =
    let names = c.args.self.now.names in
    let named = c.in-Ok.line.peers.items in
    let old = c.args.marks.now.items in
    let new = c.take_good.new.marks.items in
    on_err (λ fault. RefusesGood c.args.number named names fault old new)
    (λ fault. RefusesLine c.args.number c.args.line.now names fault old new) c.take_good.result
    (λ fault. refused_good c.args.number c.args.line.now _ _ named names old new fault c.in-Ok.ensures.good)
    c.take_good.ensures.refuses

pub returns-in-Err-NoMemory-clause-refuses : goal.returns-in-Err-NoMemory-clause-refuses
returns-in-Err-NoMemory-clause-refuses g c =
    refused_unasked c.args.number c.args.line.now c.args.self.now.names c.args.marks.now.items NoMemory tt
