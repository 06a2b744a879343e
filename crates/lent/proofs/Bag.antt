-- The names that a walk brings in, passed on: one `use` line of a proof has them all.
-- It holds nothing of its own. Assumes nothing.
pub use mathlib.Core.Path.{◌≡◌, refl, sym, ap, subst, ◌∙◌}
pub use mathlib.Core.Option.{Option, some, none}
pub use mathlib.Core.Bool.{Bool, not}
pub use Prim.Native.Nat.{ℕ, ◌<◌, ◌-◌, ◌^◌, min}
pub use native.Mathlib.Omega.{arith}
pub use mathlib.Core.List.{List, [], ◌∷◌, ◌++◌}
pub use mathlib.Core.WellFounded.InvImage.{wf as InvImage·wf}
pub use lib.Dec.{lit<, ltb, ltb→lt, nltb→le, T as Holds}
pub use lib.ListN.{length, get_or, set, replicate, length-replicate}
pub use lib.WfN.{lt-wf_rel as Nat·lt-wfRel}
pub use seplogic.Ra.Ura.{Ura}
pub use base.Fraction.{full_share}
pub use mir.Syntax.{w8, w16, w32, w64, Local, local, value_local, memory_slot, ty_unit, ty_bool, ty_int, ty_ptr, ty_ref, named, erased, mut}
pub use mir.Val.{Val, vptr}
pub use base.Logic.{SProp, ent, emp, id⊢, via, fst∗}
pub use base.Fml.{GName, Lft, Share, fat}
pub use prog.Memory.{Memory}
pub use prog.Routine.{Routine}
pub use prog.Wp.{Heap, Env, Tables, WpFn, Wp, Out, after_seq, after_block, at_return}
unfoldable pub use prog.Wp.{after_turn}
pub use ghost.Atoms.{Atoms}
pub use sound.WpLaws.{fm_of, WpFn-mono}
pub use contract.Monad.{Fun, fact, fact_i, fact_mono}
unfoldable pub use contract.Running.{tables, tables_of}
pub use types.Logic.{Logic}
pub use types.Kit.{Item, Sq, ⋆, runs, any_q, at_ret, ◌$◌, ◌∵◌, !, qed, move, rewrite}
pub use types.Part.{whole, sub, look_in, agg, rep}
pub use types.Run.{look, look_raw, init, store, store_raw, forget, stop, hop, fld, from, load, lit, unit_lit, addr, of_opd, bin, and_then, no_more, assigns, land, land_last, first, blocks, exec, loops, again, Below}
pub use denote.Plain.{UInt}
pub use denote.Slice.{Room, slice_ty, slice_val}
pub use denote.Memory.{lone, pointee}
pub use denote.Array.{Array}
pub use denote.Triple.Statement.{Contract, Triple}
pub use denote.Triple.Spec.{Meets, triple_of}
pub use denote.Triple.Table.{entered, cited}
pub use Rattle.lent.proofs.Plain.{Plain, Fits, FitsAll, plain-uint, plain-bool, plain-unit, machine}
pub use Rattle.lent.proofs.Refs.{Ref, slice, cell, Loc, Helds, items, pointers}
pub use Rattle.lent.proofs.Does.{And, After, does, gives, Does, Gives, ended, calls, calls_last, calls-some, calls-some-last, calls-value, calls-value-some, calls-value-last, tests}
pub use Rattle.lent.proofs.Meets.{meets}
pub use Rattle.lent.proofs.Frame.{Locs, env_of, cells, begins, finishes, var}
pub use Rattle.lent.proofs.Open.{opens-ref, closes-ref}
pub use Rattle.lent.proofs.Elem.{elem-loc, lends-elem, backs-elem}
pub use Rattle.lent.proofs.Local.{plain-array, array-fits, all_fit, local-loc, lends-cell, backs-cell, lends-array, backs-array}
