-- What `write` and `read` answer, from "Calls" of the trace protocol. Assumes nothing.
use Rattle.std.specs.Prelude.{ℕ, suc, ◌-◌, ◌^◌, Bool, true, ◌&&◌, List, [], ◌∷◌, ◌++◌, leb, get_or, Result, Ok, Err, if◌then◌else◌}
use Rattle.refusal.specs.declared.Refusal.{Refusal}
use Rattle.refusal.specs.Numbers.{number}
use Rattle.text.specs.Text.{bytes}
use Rattle.text.specs.Hex.{hex_text}
use Rattle.wire.specs.declared.Header.{Header}
use Rattle.wire.specs.declared.Written.{Written}
use Rattle.wire.specs.declared.Frame.{Frame}
use Rattle.wire.specs.Header.{write_of}
use Rattle.answers.specs.Said.{spaced, said, refused_text}

-- ---- "`write OPCODE PAD PKEY FAR PSN ADDRESS KEY LENGTH VALUE SYNDROME MSN`": "`header LEN HEX`, 32 bytes"

-- "A number that is too wide for its argument is an argument out of its range: refusal 3 .. 32 bits for .. key, immediate, .. and `write`'s
-- LENGTH; 16 for PKEY; 8 for SYNDROME and `write`'s OPCODE; 64 for ADDRESS": the others have an 8 or 32 bit field in the header
abbrev pub widest : List ℕ
widest =
    (2 ^ 8 - 1) ∷ (2 ^ 8 - 1) ∷ (2 ^ 16 - 1) ∷ (2 ^ 32 - 1) ∷ (2 ^ 32 - 1) ∷ (2 ^ 64 - 1) ∷ (2 ^ 32 - 1) ∷ (2 ^ 32 - 1) ∷ (2 ^ 32 - 1) ∷ (2 ^ 8 - 1) ∷ (2 ^ 32 - 1) ∷ []

-- the numbers from the k-th on, each at most its largest
unfoldable pub within : ℕ → List ℕ → List ℕ → Bool
within k a [] = true
within k a (m ∷ ms) = leb (get_or a k 0) m && within (suc k) a ms

abbrev pub header_of : List ℕ → Header
header_of a =
    record {
      opcode = get_or a 0 0;
      pad = get_or a 1 0;
      pkey = get_or a 2 0;
      far = get_or a 3 0;
      psn = get_or a 4 0;
      address = get_or a 5 0;
      key = get_or a 6 0;
      length = get_or a 7 0;
      value = get_or a 8 0;
      syndrome = get_or a 9 0;
      msn = get_or a 10 0;
    }

abbrev pub size_text : Result ℕ Refusal → List ℕ → List ℕ
size_text (Ok k) bs = bytes "header" ++ spaced (k ∷ []) ++ bytes " " ++ hex_text bs ++ bytes "\n"
size_text (Err r) bs = refused_text (number r)

abbrev pub written_text : Written → List ℕ
written_text w = size_text w.size w.bytes

abbrev pub write_text : List ℕ → List ℕ
write_text a = if within 0 a widest then written_text (write_of (header_of a)) else refused_text 3

-- ---- "`read HEX`": "`frame OPCODE PAD PKEY FAR PSN ADDRESS KEY LENGTH VALUE SYNDROME MSN HEADERLEN PAYLOADLEN`"

abbrev pub fields_of : Header → ℕ → ℕ → List ℕ
fields_of h l p =
    h.opcode ∷ h.pad ∷ h.pkey ∷ h.far ∷ h.psn ∷ h.address ∷ h.key ∷ h.length ∷ h.value ∷ h.syndrome ∷ h.msn ∷ l ∷ p ∷ []

abbrev pub frame_text : Result Frame Refusal → List ℕ
frame_text (Ok f) = said "frame" (fields_of f.header f.length f.payload)
frame_text (Err r) = refused_text (number r)
