-- A small program that is well typed, and the first call of another.
use Rattle.std.proofs.Common.{◌≡◌, ℕ, zero, suc, ◌<◌, true, [], length, refl, inl, arith}
use Rattle.std.specs.Prelude.{slice_index_or}
use Rattle.c_syntax.specs.Program.{TFunctionTree}
use Rattle.c_layout.specs.Calls.{PlacedCall, function_calls, stmt_calls, item_calls, calls_of, calls_among, IsBefore, IsFirstCall}
use Rattle.c_layout.specs.Plans.{HasBody}
use Rattle.c_layout.specs.Tables.{IsTypedTable}
use Rattle.c_layout.specs.TypedNodes.{IsTypedStmt, AreTypedItems, IsTypedExpr, AreTyped, types_of}
use Rattle.c_layout.specs.Jumps.{labels_of, labels_in, gotos_of, gotos_in, listed_of, listed_in}
use Rattle.c_layout.specs.WellTyped.{IsWellTyped, IsTypedFunction}
use Rattle.c_layout.specs.Samples.{returns_call, nested, outer_call}

-- a table with no struct in it
pub empty_table : IsTypedTable []
empty_table = record {
  named = λ k d h. absurd (omega arith);
  founded = record { height = λ n. n; bounded = λ n h. h; falls = λ n k d h. absurd (omega arith) };
  members = λ k d h. absurd (omega arith);
  told = λ n. tt;
  laid_out = record { spaces = λ n. refl; offsets = λ n k. refl };
}

functions_typed : (k : ℕ) (d : TFunctionTree) → k < 2 → IsTypedFunction (returns_call true) (slice_index_or (returns_call true).functions k d)
unfolding IsTypedStmt AreTypedItems IsTypedExpr AreTyped types_of labels_of labels_in gotos_of gotos_in
functions_typed zero d h = record {
  params = λ k d h. absurd (omega arith);
  result = inl tt;
  result_proper = tt;
  body = record { block = tt; typed = tt; labels_distinct = λ i j d h k. absurd (omega arith); gotos_there = λ k d h. absurd (omega arith) };
}
functions_typed (suc zero) d h = record {
  params = λ k d h. absurd (omega arith);
  result = inl tt;
  result_proper = tt;
  body = record {
    block = tt;
    typed = (((refl, tt, (refl, tt)), record { scalar = tt; same = refl; keeps = λ h. h }), tt);
    labels_distinct = λ i j d h k. absurd (omega arith);
    gotos_there = λ k d h. absurd (omega arith);
  };
}
functions_typed (suc (suc k)) d h = absurd (omega arith)

names_differ : (i j : ℕ) (d : TFunctionTree) → i < j → j < 2 → (slice_index_or (returns_call true).functions i d).name ≡ (slice_index_or (returns_call true).functions j d).name → ⊥
names_differ zero (suc zero) d h k e = cc
names_differ i zero d h k e = omega arith
names_differ (suc i) (suc zero) d h k e = omega arith
names_differ i (suc (suc j)) d h k e = omega arith

pub used_call : IsWellTyped (returns_call true)
unfolding listed_of listed_in
used_call = record {
  structs = empty_table;
  objects = λ k d h. absurd (omega arith);
  functions = functions_typed;
  names_distinct = names_differ;
  listed_objects = λ k d h. absurd (omega arith);
  listed_once = λ k. tt;
  initial = λ k d h. absurd (omega arith);
  initial_once = λ k. tt;
}

none_before : (f k : ℕ) (d : PlacedCall) → k < length (function_calls nested f) → IsBefore (slice_index_or (function_calls nested f) k d).pos outer_call.pos → ⊥
unfolding stmt_calls item_calls calls_of calls_among
none_before zero k d h before = omega arith
none_before (suc zero) zero d h before = omega arith
none_before (suc zero) (suc zero) d h before = omega arith
none_before (suc zero) (suc (suc k)) d h before = omega arith
none_before (suc (suc f)) k d h before = omega arith

pub first_call : IsFirstCall nested (λ call. HasBody nested call.callee → ⊥) outer_call
unfolding stmt_calls item_calls calls_of calls_among
first_call = record {
  function = 1;
  made = (1, omega arith, refl);
  asked = λ h. absurd (cc);
  first = λ f k d h asked. none_before f k d h;
}
