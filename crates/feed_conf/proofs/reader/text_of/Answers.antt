-- The octets of a name are ASCII, and so text.
use Rattle.std.proofs.Common.{subst, sym}
use Rattle.std.specs.Str.{IsUtf8}
use Rattle.feed_conf.proofs.Names.{name-utf8}
use Rattle.feed_conf.proofs.reader.text_of.Goals as goal

pub unreachable-requires : goal.unreachable-requires
unreachable-requires c =
    c.in-Err.ensures.cases.0 (subst IsUtf8 (sym c.bytes.ensures.value) (name-utf8 c.args.name.now c.bytes.ensures.form))
