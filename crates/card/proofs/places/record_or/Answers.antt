-- The code that lent's `look-any-meets` walks is this function's, as the compiler wrote it: `walked`.
-- So that law is of the function as it runs, at any struct of plain data: `looked`, and `looks-slot`, `looks-pair` at the tables' two. Assumes `Logic`.
use Rattle.std.proofs.Common.{◌≡◌, refl, [], ◌∷◌, ◌^◌}
use lib.Dec.{T as Holds, ltb}
use seplogic.Ra.Ura.{Ura}
use mir.Syntax.{Dict, dcons, dnil, a_type}
use mir.MapTy.{inst_fn}
use prog.Model.{Model}
use prog.Wired.{Wired}
use types.Logic.{Logic}
use contract.Running.{Running, tables, tables_of}
use denote.Memory.{mem}
use denote.Param.{bounded}
use denote.Struct.Struct.{Plains}
use denote.Struct.Declared.{Declared, fields, row}
use denote.Struct.Laws as LL
use denote.Triple.Table.{entered}
use Rattle.lent.proofs.Look.{any-function, Looks, look-any-meets}
use Rattle.rules.specs.contracts.Slot as Slot
use Rattle.rules.specs.contracts.Pair as Pair
use Rattle.rules.proofs.Slot.TheLaws as SlotLaws
use Rattle.rules.proofs.Pair.TheLaws as PairLaws
use Rattle.card.proofs.places.record_or.Code as code
use Rattle.card.proofs.places.record_or.Symbol.{name}

pub walked : code.function ≡ any-function
walked = refl

pub looked : (S : Declared) (L : LL.Laws S) (cp : LL.Copyables S.parts) (pl : Plains (fields S)) (small : Holds (ltb (mem (row S)).size (2 ^ 64)))
    → {M : Type 1} (𝓤 : Ura M) (𝓛 : Logic 𝓤) (𝓜 : Model 𝓤 𝓛.H) (𝓡 : Running 𝓤 𝓛.H 𝓜) → Wired 𝓡.env code.code → (e : Dict) → Looks S L cp pl small 𝓛 (𝓡.run (𝓡.env (name (bounded (a_type ∷ []) (row S, tt) (dcons e dnil)))))
unfolding tables_of
looked S L cp pl small 𝓤 𝓛 𝓜 𝓡 wired e =
    let 𝓣 = tables 𝓤 𝓛.H 𝓜 𝓡 𝓡.env in let at = bounded (a_type ∷ []) (row S, tt) (dcons e dnil) in
    entered 𝓤 𝓛.H _ 𝓣.C 𝓣.Λ (name at) (inst_fn at code.function) (code.unfolded 𝓤 𝓛.H 𝓜 𝓡 wired (row S, tt) e) (look-any-meets S L cp pl small 𝓛 (tables_of 𝓤 𝓛.H 𝓜 𝓣) e)

module _ {M : Type 1} (𝓤 : Ura M) (𝓛 : Logic 𝓤) (𝓜 : Model 𝓤 𝓛.H) (𝓡 : Running 𝓤 𝓛.H 𝓜) (wired : Wired 𝓡.env code.code) (e : Dict) where
  pub looks-slot : Looks Slot.the_type SlotLaws.the_laws SlotLaws.the_copy SlotLaws.the_plain tt 𝓛 (𝓡.run (𝓡.env (name (bounded (a_type ∷ []) (Slot.the_row, tt) (dcons e dnil)))))
  looks-slot = looked Slot.the_type SlotLaws.the_laws SlotLaws.the_copy SlotLaws.the_plain tt 𝓤 𝓛 𝓜 𝓡 wired e

  pub looks-pair : Looks Pair.the_type PairLaws.the_laws PairLaws.the_copy PairLaws.the_plain tt 𝓛 (𝓡.run (𝓡.env (name (bounded (a_type ∷ []) (Pair.the_row, tt) (dcons e dnil)))))
  looks-pair = looked Pair.the_type PairLaws.the_laws PairLaws.the_copy PairLaws.the_plain tt 𝓤 𝓛 𝓜 𝓡 wired e
