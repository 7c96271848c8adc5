-- A command line, from its words.
use Rattle.std.proofs.Common.{◌≡◌, ◌≤◌, ◌-◌, refl, sym, ap, ◌∙◌, arith, true, List, [], ◌∷◌, map, length, get_or, take, drop, Option, Some, None, codes, string_bytes, Global}
use Rattle.std.specs.Prelude.{String, option_and_then}
use Rattle.std.proofs.lemmas.List.{take_all}
use Rattle.clap.specs.declared.parser.matches.ArgMatches.{ArgMatches}
use Rattle.headline_words.specs.Command.{Asked, Part, Text, are_apart, asked_by, command_of, parts_of, texts}
use Rattle.headline_words.specs.Parser.{Finds, Reads, ReadsNone}

-- the words behind `analyze`
pub record IsLine (items : List (String Global)) : Type 0 where
  pub program : Text
  pub rest : List Text
  pub words : texts items ≡ program ∷ codes "analyze" ∷ rest
  pub tail : map string_bytes (take (length items - 1) (drop 1 items)) ≡ codes "analyze" ∷ rest

pub line_of : (items : List (String Global)) (word : String Global) → 2 ≤ length items → word ≡ get_or items 1 word → string_bytes word ≡ codes "analyze" → IsLine items
line_of [] word long is name = absurd (omega arith)
line_of (p ∷ []) word long is name = absurd (omega arith)
line_of (p ∷ w ∷ more) word long is name =
    let same : string_bytes w ≡ codes "analyze" = ap string_bytes (sym is) ∙ name in
    record {
      program = string_bytes p;
      rest = map string_bytes more;
      words = ap (λ (x : Text). string_bytes p ∷ x ∷ map string_bytes more) same;
      tail = ap (map string_bytes) (take_all (length (p ∷ w ∷ more) - 1) (w ∷ more) (omega arith)) ∙ ap (λ (x : Text). x ∷ map string_bytes more) same;
    }

pub found_by : (o : Option (List Part)) (m : ArgMatches) (asked : Asked) → Reads o m → ((ps : List Part) → are_apart ps ≡ true → Finds ps m → asked_by ps ≡ Some asked)
    → option_and_then asked_by o ≡ Some asked
found_by None m asked r f = absurd r
found_by (Some ps) m asked r f = f ps r.0 r.1

pub none_by : (o : Option (List Part)) (m : ArgMatches) → Reads o m → ((ps : List Part) → are_apart ps ≡ true → Finds ps m → asked_by ps ≡ None)
    → option_and_then asked_by o ≡ None
none_by None m r f = absurd r
none_by (Some ps) m r f = f ps r.0 r.1

pub refused_by : (o : Option (List Part)) → ReadsNone o → option_and_then asked_by o ≡ None
refused_by None r = refl
refused_by (Some ps) r = rw r refl

pub asked_is : (items : List (String Global)) (line : IsLine items) → command_of (texts items) ≡ option_and_then asked_by (parts_of None line.rest)
asked_is items line = ap command_of line.words
