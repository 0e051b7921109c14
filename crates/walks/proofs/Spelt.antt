-- A function's code with the types of its locals as they are declared. The code spells every type out from a table of
-- named types, and to compare two such types the checker looks each name up again: of nested types that takes most of a
-- walk, and then more than it may take. A walk that begins from the declared types compares them at once; that both are
-- the same code is checked once, by `refl`.
use mathlib.Core.List.{List}
use Prim.Native.Nat.{ℕ}
use lib.ListN.{get_or}
use mir.Syntax.{ty_unit, ty_ref, named, erased, mut, imm, Local, local, value_local, memory_slot, Fn}
use denote.{RattleType.RattleType, Memory.pointee, Slice.slice_ty}

-- a local of a declared type
abbrev pub of_type : RattleType → Local
of_type T = local (get_or T.mir 0 ty_unit) value_local

-- one that the function itself lends
abbrev pub lends_type : RattleType → Local
lends_type T = local (get_or T.mir 0 ty_unit) memory_slot

-- a row that is lent to the function, for the lifetime of this number; a pointer into a row, and a row, on their way
-- to a callee that may change it, or that only reads
abbrev pub lent_row : ℕ → RattleType → Local
lent_row κ T = local (slice_ty (ty_ref (named κ) mut (pointee T.written))) value_local

abbrev pub pointer : RattleType → Local
pointer T = local (ty_ref erased mut (pointee T.written)) value_local

abbrev pub row : RattleType → Local
row T = local (slice_ty (ty_ref erased mut (pointee T.written))) value_local

abbrev pub read_pointer : RattleType → Local
read_pointer T = local (ty_ref erased imm (pointee T.written)) value_local

abbrev pub read_row : RattleType → Local
read_row T = local (slice_ty (ty_ref erased imm (pointee T.written))) value_local

-- the code with these locals
abbrev pub spelt : Fn → List Local → Fn
spelt f locals = record {
  lifetimes = f.lifetimes;
  outlives = f.outlives;
  ty_params = f.ty_params;
  givens = f.givens;
  params = f.params;
  locals = locals;
  body = f.body;
}
