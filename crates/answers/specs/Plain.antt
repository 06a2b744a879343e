-- What a line answers that asks nothing of the tables, from "Reading" and "Calls" of the trace protocol. Assumes nothing.
use Rattle.std.specs.Prelude.{ℕ, List, [], get_or}
use Rattle.text.specs.declared.Ask.{Ask}
use Rattle.text.specs.declared.Ask.TheVariants.{Nothing, Unread, Fresh, Open, Post, Emit, Ack, Response, Timer, Close, Room, Show, Free, Write, Read}
use Rattle.text.specs.Words.{words}
use Rattle.text.specs.Hex.{octets}
use Rattle.text.specs.Line.{parsed_of}
use Rattle.wire.specs.Frame.{read_of}
use Rattle.answers.specs.Said.{unread_text}
use Rattle.answers.specs.Headers.{write_text, frame_text}

-- of the others nothing is said here
abbrev pub ask_text : Ask → List ℕ → List ℕ → ℕ → List ℕ
ask_text Unread a l n = unread_text n
ask_text Write a l n = write_text a
ask_text Read a l n = frame_text (read_of (octets (get_or (words l) 1 [])))
ask_text Nothing a l n = []
ask_text Fresh a l n = []
ask_text Open a l n = []
ask_text Post a l n = []
ask_text Emit a l n = []
ask_text Ack a l n = []
ask_text Response a l n = []
ask_text Timer a l n = []
ask_text Close a l n = []
ask_text Room a l n = []
ask_text Show a l n = []
ask_text Free a l n = []

-- of a line, the n-th of the input
unfoldable pub text_of : List ℕ → ℕ → List ℕ
text_of l n = ask_text (parsed_of l).ask (parsed_of l).args l n
