-- "These eight proved as one statement over one list": by computing.
use mathlib.Core.Path.{refl, ◌≡◌}
use mathlib.Core.List.{[], ◌∷◌, ◌++◌}
use Rattle.psn.specs.Psn.{distance}
use Rattle.rules.specs.declared.Answer.TheVariants.{Dropped, Done, Resending}
use Rattle.rules.specs.Message.{packets_of}
use Rattle.rules.specs.Ranges.{bad_settings, bad_post}
use Rattle.rules.specs.Posting.{posted}
use Rattle.rules.specs.Emission.{emitted}
use Rattle.rules.specs.Release.{release}
use Rattle.rules.specs.Acknowledge.{acknowledge}
use Rattle.rules.specs.Requests.{word_of}
use Rattle.rules.specs.Refusals.{side_at}
use Rattle.rules.specs.Calls.{account}
use Rattle.rules.specs.Numbers.{send, read, sizes, emitted_all, ack_after, Eight}

fourth : sizes (send 600) ≡ 0 ∷ 1 ∷ 2 ∷ 256 ∷ 256 ∷ 88 ∷ []
unfolding packets_of
fourth = refl

sixth : ack_after 0 (emitted_all 16777214 (send 0 ∷ send 0 ∷ send 0 ∷ send 0 ∷ [])) ≡ word_of Done ∷ 3 ∷ 0 ∷ 1 ∷ 2 ∷ 1 ∷ []
unfolding account side_at distance packets_of posted emitted release acknowledge bad_settings bad_post
sixth = refl

seventh-a : ack_after 9 (emitted_all 5 (send 900 ∷ [])) ≡ word_of Dropped ∷ 0 ∷ 0 ∷ 5 ∷ 9 ∷ 5 ∷ 6 ∷ 7 ∷ 8 ∷ []
unfolding account side_at distance packets_of posted emitted release acknowledge bad_settings bad_post
seventh-a = refl

seventh-b : ack_after 4 (emitted_all 5 (send 900 ∷ [])) ≡ word_of Dropped ∷ 0 ∷ 0 ∷ 5 ∷ 9 ∷ 5 ∷ 6 ∷ 7 ∷ 8 ∷ []
unfolding account side_at distance packets_of posted emitted release acknowledge bad_settings bad_post
seventh-b = refl

eighth : ack_after 15 (emitted_all 10 (send 0 ∷ read 1000 ∷ send 0 ∷ [])) ≡ word_of Resending ∷ 1 ∷ 0 ∷ 11 ∷ 11 ∷ 11 ∷ 15 ∷ []
unfolding account side_at distance packets_of posted emitted release acknowledge bad_settings bad_post
eighth = refl

pub eight-numbers : Eight
eight-numbers = λ i. (1 ∷ []) ∷ (1 ∷ []) ∷ (2 ∷ []) ∷ fourth i ∷ (3 ∷ []) ∷ sixth i ∷ (seventh-a i ++ seventh-b i) ∷ eighth i ∷ []
