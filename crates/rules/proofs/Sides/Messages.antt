-- A release, a flush and a post keep whole messages; and what holds of a post's packets holds of all that is left of posts.
use mathlib.Core.Path.{◌≡◌, sym, ap, ◌∙◌}
use mathlib.Core.List.{List, [], ◌++◌, append_assoc, append-nil}
use Prim.Native.Nat.{ℕ, ◌+◌, ◌-◌, ◌≤◌, ◌<◌}
use native.Mathlib.Omega.{arith}
use lib.Dec.{ltb}
use borrow.Author.Tests.{ltb-true, ltb-false}
use lib.ListN.{length, drop, length-drop}
use lib.Seq.{drop-append-le, drop-append-add, drop-drop, drop-nil}
use Rattle.refusal.specs.Choice.{Each}
use Rattle.refusal.proofs.Cases.{by-test}
use Rattle.refusal.proofs.Each.{each_append, each-drop}
use Rattle.rules.specs.declared.Packet.{Packet}
use Rattle.rules.specs.declared.Settings.{Settings}
use Rattle.rules.specs.declared.Post.{Post}
use Rattle.rules.specs.Message.{packets_of}
use Rattle.rules.specs.WholeMessages.{Allowed, Messages, no_more, message, Remaining, none_left, rear}

drop_past : (j : ℕ) (a b : List Packet) → length a ≤ j → drop j (a ++ b) ≡ drop (j - length a) b
drop_past j a b h =
    ap (λ (k : ℕ). drop k (a ++ b)) (e) ∙ drop-append-add a b (j - length a)
  where
    e : j ≡ length a + (j - length a)
    e = omega arith

module _ (s : Settings) where
  -- the rear of a rear, and what follows
  cut : (m : Post) (first k j : ℕ) (rest : List Packet) → Allowed s m → Messages s rest
      → ((i : ℕ) → Remaining s (drop i rest)) → k ≤ length (packets_of s m first)
      → Remaining s (drop j (drop k (packets_of s m first) ++ rest))
  cut m first k j rest f r later h =
      by-test (ltb j (length (drop k (packets_of s m first))))
      (λ e.
      let lt = ltb-true j (length (drop k (packets_of s m first))) e in
      rear m first (k + j) rest f (omega (arith, length-drop k (packets_of s m first), lt))
      (drop-append-le j (drop k (packets_of s m first)) rest (omega (arith, lt)) ∙ ap (λ (l : List Packet). l ++ rest) (drop-drop j k (packets_of s m first)))
      r)
      (λ e.
      rw (drop_past j (drop k (packets_of s m first)) rest (ltb-false j (length (drop k (packets_of s m first))) e)) (later (j - length (drop k (packets_of s m first)))))

  messages-drop : {ps : List Packet} → Messages s ps → (j : ℕ) → Remaining s (drop j ps)
  messages-drop no_more j = rw (drop-nil j) none_left
  messages-drop (message m first rest f e r) j = rw e (cut m first 0 j rest f r (messages-drop r) (omega arith))

  pub held-drop : {ps : List Packet} → Remaining s ps → (j : ℕ) → Remaining s (drop j ps)
  held-drop none_left j = rw (drop-nil j) none_left
  held-drop (rear m first k rest f h e r) j = rw e (cut m first k j rest f r (messages-drop r) (omega arith))

  -- a post adds a whole message
  messages-post : (m : Post) (first : ℕ) → Allowed s m → {ps : List Packet} → Messages s ps → Messages s (ps ++ packets_of s m first)
  messages-post m first f no_more = message m first [] f (sym (append-nil (packets_of s m first))) no_more
  messages-post m first f (message n a rest g e r) =
      message n a (rest ++ packets_of s m first) g (ap (λ (l : List Packet). l ++ packets_of s m first) e ∙ append_assoc (packets_of s n a) rest (packets_of s m first)) (messages-post m first f r)

  pub held_post : (m : Post) (first : ℕ) → Allowed s m → 0 < length (packets_of s m first) → {ps : List Packet} → Remaining s ps → Remaining s (ps ++ packets_of s m first)
  held_post m first f pos none_left = rear m first 0 [] f pos (sym (append-nil (packets_of s m first))) no_more
  held_post m first f pos (rear n a k rest g h e r) =
      rear n a k (rest ++ packets_of s m first) g h (ap (λ (l : List Packet). l ++ packets_of s m first) e ∙ append_assoc (drop k (packets_of s n a)) rest (packets_of s m first)) (messages-post m first f r)

-- what holds of every packet that an allowed post is split into holds of all that a pair has left
module _ (s : Settings) (P : Packet → Type 0) (split : (m : Post) (first : ℕ) → Allowed s m → Each P (packets_of s m first)) where
  messages-each : {ps : List Packet} → Messages s ps → Each P ps
  messages-each no_more = tt
  messages-each (message m first rest f e r) = rw e (each_append P (packets_of s m first) rest (split m first f) (messages-each r))

  pub remaining-each : {ps : List Packet} → Remaining s ps → Each P ps
  remaining-each none_left = tt
  remaining-each (rear m first k rest f h e r) =
      rw e (each_append P (drop k (packets_of s m first)) rest (each-drop P k (packets_of s m first) (split m first f)) (messages-each r))
