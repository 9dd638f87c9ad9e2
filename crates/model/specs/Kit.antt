-- The kit's names that specs and proofs use, passed on as they are: each means what the kit's module says.
pub use Rattle.std.specs.Prelude.{List, [], ◌++◌, ◌∷◌, map, ◌%◌, ◌*◌, ◌+◌, ◌-◌, ◌/◌, ◌<◌, ◌^◌, ◌≤◌, min, suc, zero, ℕ, T, eqb, leb, ltb, drop, get_or, length, replicate, set, take, Bool, false, not}
pub use Rattle.std.specs.Prelude.{true, ◌↔◌, ◌⊎◌, ◌≡◌, refl}
pub use base.Logic.{SProp, emp, ent, sep}
pub use Rattle.std.proofs.Common.{below_more, rules, eq-eqb, eqb-true, le-leb, le-ltb, leb-false, leb-true, lt-ltb, ltb-false, ltb-true, ne_eqb, T_not, eqb→eq, leb→le, lit<, ltb→lt, lt→ltb}
pub use Rattle.std.proofs.Common.{length-append, length-drop, length-set, length-take, take-append-drop, get_or-drop, get_or-take, length-take-le, take_all, inl, inr, ⊎_elim, ◌∙◌, ap, ap₂, subst}
pub use Rattle.std.proofs.Common.{subst₂, sym, le_of_suc-le-suc, lt_of_le_of_lt, lt_of_lt_of_le, mod-eq_of_lt, mul-le-mul, mul-le-mul_right, not-suc-le-zero, suc-mul, add-one, arith}
pub use Rattle.std.proofs.lemmas.Bool.{eqb-false, lt-leb, not-false, not-true}
pub use Rattle.std.specs.Borrow.{Bor, MutBor}
pub use Rattle.std.proofs.lemmas.Nat.{and_le_l, or_lt}
pub use Rattle.std.specs.Int.Bits.{bit_and, bit_or}
unfoldable pub use Rattle.std.specs.Int.Count.{count_trailing_zeros}
pub use Rattle.std.proofs.Math.Dec.{eqb_refl, not_T}
pub use Rattle.std.proofs.lemmas.List.{length-map, length-replicate}
pub use Rattle.std.proofs.Math.Pow.{pow-lt}
pub use mathlib.Core.List.Memᴰ.{append_left as Memᴰ-append_left}
pub use mathlib.Core.List.Memᴰ.{cases_cons as Memᴰ-cases_cons}
pub use mathlib.Core.List.Memᴰ.{cast as Memᴰ-cast}
pub use mathlib.Core.List.Memᴰ.{head as Memᴰ-head}
pub use mathlib.Core.List.Memᴰ.{map as Memᴰ-map}
pub use mathlib.Core.List.Memᴰ.{not-nil as Memᴰ-not_nil}
pub use mathlib.Core.List.Memᴰ.{of_map as Memᴰ-of_map}
pub use mathlib.Core.List.Memᴰ.{tail as Memᴰ-tail}
pub use mathlib.Core.List.{Memᴰ, append_assoc, append-nil}
pub use Rattle.std.proofs.Math.Decide.{dec_lt, ℕ_discrete}
