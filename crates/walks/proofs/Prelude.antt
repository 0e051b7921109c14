-- What the walks are written in: names of the logic and of this crate, under one path.
pub use mathlib.Core.Path.{◌≡◌, refl, sym, ap, ◌∙◌, subst}
pub use mathlib.Core.List.{List, [], ◌∷◌}
pub use mathlib.Core.Option.{none, some}
pub use Prim.Native.Nat.{ℕ, suc, ◌+◌, ◌<◌, ◌^◌}
pub use native.Mathlib.Nat.{lt_of_le_of_lt, le_antisymm}
pub use native.Mathlib.Numerals.{add-one}
pub use native.Mathlib.Omega.{arith}
pub use lib.Dec.{lit<, ltb→lt, nltb→le}
pub use lib.ListN.{length}
pub use seplogic.Ra.Ura.{Ura}
pub use base.Fraction.{full_share}
pub use mir.Syntax.{named, w8, w64, Fn}
pub use mir.Val.{Val, vint, vunit, vstruct, vcons, vnil}
pub use base.Logic.{SProp, ent, emp, id⊢}
pub use base.Fml.{Lft}
pub use prog.Model.{Model}
pub use prog.Wp.{Heap, Env}
pub use contract.Lifetimes.{Lfts, Shares}
pub use contract.Monad.{fact_i}
pub use contract.Running.{Running}
pub use types.Kit.{Item, ‵, ⋆, at_ret, ◌$◌, ◌∵◌, !, qed, by, move, keep, use1}
pub use types.Part.{agg}
pub use types.Run.{of_opd, lit, unit_lit, un, bin, stop, from, addr, and_then, no_more}
pub use denote.Builtin.{u8, u32}
pub use denote.Ref.{Bor, MutBor, at_last, as_bor}
pub use denote.Slice.{Room, slice_val, finally}
pub use denote.Struct.Laws.{owed, owes}
pub use denote.Triple.Clauses.{Lasts}
pub use denote.Triple.Entry.{Args}
pub use Rattle.walks.proofs.Arrays.{lends_array, array_back, slice_at, field_val, as_field}
pub use Rattle.walks.proofs.Calls.{hears, calls}
pub use Rattle.walks.proofs.Counting.{Turn, in_code, goes_on, stops, counts}
pub use Rattle.walks.proofs.Data.{Real, typed, number, array}
pub use Rattle.walks.proofs.Elements.{place_fits, reads_element, writes_element, settled}
pub use Rattle.walks.proofs.Fronts.{lends_front, front_back}
pub use Rattle.walks.proofs.Lending.{under, lends_again, comes_back, lends_shared, shared_back}
pub use Rattle.walks.proofs.Locals.{placed, standing, leaves}
pub use Rattle.walks.proofs.Params.{last_list}
pub use Rattle.walks.proofs.Spelt.{of_type, lends_type, lent_row, pointer, row, read_pointer, read_row, spelt}
pub use Rattle.walks.proofs.Statements.{copies, copies_all, copies_field, copies_part, points_to, refers, joins}
pub use Rattle.walks.proofs.Statements.{
  means,
  vacates,
  sets,
  resets_last,
  lands_in,
  lands_over,
  gives,
  parts,
  then_set,
  then_skip,
}
pub use Rattle.walks.proofs.Walk.{AllReal, brought, left, Post, Body, exits, meets}
