-- Plain data: numbers, and structs, enums and arrays of them. A value has one machine value, which can be written down,
-- and what it owns is had for nothing, so that a walk carries only the fact `Is` of it. Assumes nothing.
use mathlib.Core.{Path.{◌≡◌, refl, ap, subst}, List.{[], ◌∷◌}}
use Prim.Native.Nat.{ℕ}
use seplogic.Ra.Ura.{Ura}
use mir.{Syntax.Width, Val.{Val, vint, vunit}}
use types.Logic.{Logic}
use denote.Array.{Array, array_vals, Array-Tells, Array-Lawful, Array-Makes, Array-row_laws, array_copy}
use denote.{ArrayMemory.Single, Copied.{Copied, uint_Copied, Nothing-Copied, Array-Copied}}
use denote.{Exit.{Kept, unchanged, each_of}, RattleType.{RattleType, RowLaws}}
use denote.Laws.{Typed, Is, Tells, Makes, Lawful, Copy}
use denote.Plain.{UInt, uint_Tells, uint_Lawful, uint_Makes, uint_copy, Nothing, Nothing-Tells, Nothing-Lawful}
use denote.Plain.{Nothing-Makes, Nothing-copy, uint_row_laws, unit-row_laws}
use denote.{Steps.only, Struct.Struct.{Plains, Struct as StructOf, Struct-row_laws}}
use denote.{Struct.Recorded.Recorded-row_laws, Enum.Enum.{Plainss, Few, Enum as EnumOf, Enum-row_laws}}
use denote.Struct.Declared as Struct
use denote.Struct.Laws as StructLaws
use denote.Enum.Declared as Enum
use denote.Enum.Laws as EnumLaws

pub record Data (R : RattleType) : Type 2 where
  pub val : R.Denot → Val
  pub tells : Tells R (Is R) (λ x. val x ∷ [])
  pub still : (k : Kept) → R.exit k ≡ unchanged
  pub lawful : {M : Type 1} {𝓤 : Ura M} (𝓛 : Logic 𝓤) → Lawful 𝓛 R
  pub makes : {M : Type 1} {𝓤 : Ura M} (𝓛 : Logic 𝓤) → Makes 𝓛 R (Is R)
  pub copy : {M : Type 1} {𝓤 : Ura M} (𝓛 : Logic 𝓤) → Copy 𝓛 R
  -- it has one MIR type, and a `&` to it is made, had twice and read through
  pub one : Single R.mir
  pub rows : RowLaws R
  pub copied : {M : Type 1} {𝓤 : Ura M} (𝓛 : Logic 𝓤) → Copied 𝓛 R

-- ---- the types that are plain data
abbrev pub number : (w : Width) → Data (UInt w)
number w = record {
  val = vint w;
  tells = uint_Tells w;
  still = λ k. refl;
  lawful = λ 𝓛. uint_Lawful 𝓛 w;
  makes = λ 𝓛. uint_Makes 𝓛 w;
  copy = λ 𝓛. uint_copy 𝓛 w;
  one = tt;
  rows = uint_row_laws w;
  copied = λ 𝓛. uint_Copied 𝓛 w;
}

abbrev pub unit : Data Nothing
unit = record {
  val = λ _. vunit;
  tells = Nothing-Tells;
  still = λ k. refl;
  lawful = λ 𝓛. Nothing-Lawful 𝓛;
  makes = λ 𝓛. Nothing-Makes 𝓛;
  copy = λ 𝓛. Nothing-copy 𝓛;
  one = tt;
  rows = unit-row_laws;
  copied = λ 𝓛. Nothing-Copied 𝓛;
}

abbrev pub struct : (T : Struct.Declared) → StructLaws.Laws T → Plains (Struct.fields T)
    → StructLaws.Copyables T.parts → Data (Struct.row T)
struct T L plain copies = record {
  val = StructLaws.val T L;
  tells = StructLaws.tells T L;
  still = StructLaws.still T copies;
  lawful = λ 𝓛. StructLaws.lawful T L 𝓛;
  makes = λ 𝓛. StructLaws.makes T plain 𝓛;
  copy = λ 𝓛. StructLaws.copy T copies 𝓛;
  one = tt;
  rows = Recorded-row_laws (StructOf (Struct.shape T)) T.D T.to T.to_one
      (Struct-row_laws (Struct.shape T) (StructLaws.copy_row_laws T.parts copies));
  copied = λ 𝓛. StructLaws.copied T copies 𝓛;
}

abbrev pub enum : (T : Enum.Declared) → EnumLaws.Laws T → Few (Enum.shape T) → Plainss (Enum.variants T)
    → EnumLaws.Copyabless T.parts → Data (Enum.row T)
enum T L few plain copies = record {
  val = EnumLaws.val T L;
  tells = EnumLaws.tells T L;
  still = EnumLaws.still T copies;
  lawful = λ 𝓛. EnumLaws.lawful T L 𝓛 few;
  makes = λ 𝓛. EnumLaws.makes T plain 𝓛;
  copy = λ 𝓛. EnumLaws.copy T copies 𝓛;
  one = tt;
  rows = Recorded-row_laws (EnumOf (Enum.shape T)) T.D T.to T.to_one
      (Enum-row_laws (Enum.shape T) (EnumLaws.copy_row_lawss T.parts copies));
  copied = λ 𝓛. EnumLaws.copied T copies 𝓛;
}

abbrev pub array : {R : RattleType} → Data R → (n : ℕ) → Data (Array R n)
array {R} D n = record {
  val = λ ys. only (array_vals (λ y. D.val y ∷ []) ys);
  tells = Array-Tells R (λ y. D.val y ∷ []) D.tells n;
  still = λ k. ap each_of (D.still k);
  lawful = λ 𝓛. Array-Lawful 𝓛 R (D.lawful 𝓛) n;
  makes = λ 𝓛. Array-Makes 𝓛 R (D.makes 𝓛) n;
  copy = λ 𝓛. array_copy 𝓛 R (D.copy 𝓛) n;
  one = tt;
  rows = Array-row_laws R D.rows n;
  copied = λ 𝓛. Array-Copied 𝓛 R (D.copied 𝓛) D.one n;
}

module _ {R : RattleType} (D : Data R) where
  -- x stands for some value
  abbrev pub Real : R.Denot → Type 0
  Real x = Is R x (D.val x ∷ [])

  -- a machine value is that of x, once it is known to be that of some r that equals x
  pub reads_as : (x r : R.Denot) (u : Val) → r ≡ x → Is R r (u ∷ []) → (u ≡ D.val x) × Real x
  reads_as x r u e is =
      let is' : Is R x (u ∷ []) = subst (λ (y : R.Denot). Is R y (u ∷ [])) e is in
      (ap only (D.tells x (u ∷ []) is'), subst (Is R x) (D.tells x (u ∷ []) is') is')

  -- it may be stored in a local of the type
  pub typed : {M : Type 1} {𝓤 : Ura M} (𝓛 : Logic 𝓤) (x : R.Denot) → Real x
      → Typed R.mir (D.val x ∷ [])
  typed {𝓤 = 𝓤} 𝓛 x is = (D.lawful 𝓛).typed x (D.val x ∷ []) is
