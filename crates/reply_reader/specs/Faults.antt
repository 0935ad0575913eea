-- The words in messages and scripts for why no reply is read (profile).
use Rattle.std.specs.Prelude.{ℕ, List, codes}
use Rattle.reply_reader.specs.declared.fault.ReplyFault.{ReplyFault}
use Rattle.reply_reader.specs.declared.fault.ReplyFault.TheVariants.{TooLong, NoCode, NoMemory, Failed}

abbrev pub reply_fault_name : ReplyFault → List ℕ
reply_fault_name TooLong = codes "TooLong"
reply_fault_name NoCode = codes "NoCode"
reply_fault_name NoMemory = codes "NoMemory"
reply_fault_name Failed = codes "Failed"
