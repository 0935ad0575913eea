use Rattle.std.proofs.Common.{ℕ, List, length, ap, sym, ◌∙◌}
use Rattle.dot_codec.specs.declared.fault.BlockFault.TheVariants.{Unfinished, BareCr, BareLf, Nul}
use Rattle.dot_codec.proofs.Faults.{form_has_no_fault, told_first, told_none}
use Rattle.dot_codec.proofs.Forms.{forms_do_not_begin_another}
use Rattle.dot_codec.proofs.Counts.{read_prefix}
use Rattle.dot_codec.proofs.read.from_block.Goals as goal

pub returns-in-Ok-lines_of-clause-read : goal.returns-in-Ok-lines_of-clause-read
returns-in-Ok-lines_of-clause-read c =
    let read = c.in-Ok.ensures.read in
    read_prefix c.args.octets.now c.in-Ok-lines_of.text.items read.0 read.1 read.2 c.in-Ok.size.used read.3 read.4 read.5 (c.in-Ok-lines_of.ensures read.0 read.1 read.2 read.3 read.4)

pub returns-in-Ok-lines_of-clause-all : goal.returns-in-Ok-lines_of-clause-all
returns-in-Ok-lines_of-clause-all c = λ lines form rest is_form is.
    let read = c.in-Ok.ensures.read in
    let once = forms_do_not_begin_another read.0 lines read.1 form read.2 rest read.3 is_form (sym read.4 ∙ is) in
    (c.in-Ok-lines_of.ensures lines form rest is_form is, read.5 ∙ ap (λ (f : List ℕ). length f) once.1)

pub returns-in-Ok-lines_of-clause-unfinished : goal.returns-in-Ok-lines_of-clause-unfinished
returns-in-Ok-lines_of-clause-unfinished c = let read = c.in-Ok.ensures.read in told_none Unfinished read.0 c.args.octets.now read.1 read.2 (λ e. cc) read.3 read.4

pub returns-in-Ok-lines_of-clause-bare_cr : goal.returns-in-Ok-lines_of-clause-bare_cr
returns-in-Ok-lines_of-clause-bare_cr c = let read = c.in-Ok.ensures.read in told_none BareCr read.0 c.args.octets.now read.1 read.2 (λ e. cc) read.3 read.4

pub returns-in-Ok-lines_of-clause-bare_lf : goal.returns-in-Ok-lines_of-clause-bare_lf
returns-in-Ok-lines_of-clause-bare_lf c = let read = c.in-Ok.ensures.read in told_none BareLf read.0 c.args.octets.now read.1 read.2 (λ e. cc) read.3 read.4

pub returns-in-Ok-lines_of-clause-nul : goal.returns-in-Ok-lines_of-clause-nul
returns-in-Ok-lines_of-clause-nul c = let read = c.in-Ok.ensures.read in told_none Nul read.0 c.args.octets.now read.1 read.2 (λ e. cc) read.3 read.4

pub returns-in-Err-lines_of-clause-unfinished : goal.returns-in-Err-lines_of-clause-unfinished
returns-in-Err-lines_of-clause-unfinished c = let read = c.in-Ok.ensures.read in told_none Unfinished read.0 c.args.octets.now read.1 read.2 (λ e. cc) read.3 read.4

pub returns-in-Err-lines_of-clause-bare_cr : goal.returns-in-Err-lines_of-clause-bare_cr
returns-in-Err-lines_of-clause-bare_cr c = let read = c.in-Ok.ensures.read in told_none BareCr read.0 c.args.octets.now read.1 read.2 (λ e. cc) read.3 read.4

pub returns-in-Err-lines_of-clause-bare_lf : goal.returns-in-Err-lines_of-clause-bare_lf
returns-in-Err-lines_of-clause-bare_lf c = let read = c.in-Ok.ensures.read in told_none BareLf read.0 c.args.octets.now read.1 read.2 (λ e. cc) read.3 read.4

pub returns-in-Err-lines_of-clause-nul : goal.returns-in-Err-lines_of-clause-nul
returns-in-Err-lines_of-clause-nul c = let read = c.in-Ok.ensures.read in told_none Nul read.0 c.args.octets.now read.1 read.2 (λ e. cc) read.3 read.4

pub returns-in-Err-clause-all : goal.returns-in-Err-clause-all
returns-in-Err-clause-all c = λ lines form rest is_form is. absurd (form_has_no_fault c.in-Err.fault lines c.args.octets.now form rest is_form is c.in-Err.ensures.fault)

pub returns-in-Err-clause-unfinished : goal.returns-in-Err-clause-unfinished
returns-in-Err-clause-unfinished c = told_first c.in-Err.fault Unfinished c.args.octets.now c.in-Err.ensures.fault

pub returns-in-Err-clause-bare_cr : goal.returns-in-Err-clause-bare_cr
returns-in-Err-clause-bare_cr c = told_first c.in-Err.fault BareCr c.args.octets.now c.in-Err.ensures.fault

pub returns-in-Err-clause-bare_lf : goal.returns-in-Err-clause-bare_lf
returns-in-Err-clause-bare_lf c = told_first c.in-Err.fault BareLf c.args.octets.now c.in-Err.ensures.fault

pub returns-in-Err-clause-nul : goal.returns-in-Err-clause-nul
returns-in-Err-clause-nul c = told_first c.in-Err.fault Nul c.args.octets.now c.in-Err.ensures.fault
