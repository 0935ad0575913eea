use Rattle.std.proofs.Common.{arith, ◌+◌, ◌*◌}
use Rattle.innd_storage.proofs.Texts.{hex_at}
use Rattle.innd_storage.proofs.token.octet_at.Goals as goal

pub digit-requires : goal.digit-requires
digit-requires c = hex_at c.args.text.now (2 * c.args.index + 1) c.requires.text (omega arith) (omega arith)

pub digit-requires-2 : goal.digit-requires-2
digit-requires-2 c = hex_at c.args.text.now (2 * c.args.index + 2) c.requires.text (omega arith) (omega arith)
