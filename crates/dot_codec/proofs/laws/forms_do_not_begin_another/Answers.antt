use Rattle.dot_codec.proofs.Forms.{forms_do_not_begin_another}
use Rattle.dot_codec.proofs.laws.forms_do_not_begin_another.Goals as goal

pub returns : goal.returns
returns c = forms_do_not_begin_another
