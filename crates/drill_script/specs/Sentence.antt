-- A line that was read, by what it says.
use Rattle.feed_conf.specs.PeerView.{settings_view}
use Rattle.drill_script.specs.Line.{SentenceView, Blank, Declares, Gives, Takes}
use Rattle.drill_script.specs.Step.{step_view}
use Rattle.drill_script.specs.declared.sentence.Sentence.{Sentence}
use Rattle.drill_script.specs.declared.sentence.Sentence.TheVariants.{Nothing, Peer, Tape, Step}

abbrev pub sentence_view : Sentence → SentenceView
sentence_view Nothing = Blank
sentence_view (Peer conf) = Declares (settings_view conf)
sentence_view (Tape name octets) = Gives name octets.items
sentence_view (Step step) = Takes (step_view step)
