-- The grammar's laws: a text is one file, or is refused at one token for one reason; the descent finds which.
use Rattle.std.proofs.Common.{◌≡◌, List, [], ◌⊎◌, inl, inr}
use Rattle.c_syntax_written.specs.declared.token.Placed.{Placed}
use Rattle.c_syntax_written.specs.WrittenFile.{OuterTree, FileTree}
use Rattle.c_grammar.specs.Parts.{Outers}
use Rattle.c_grammar.specs.Grammar.{at_start}
use Rattle.c_grammar.specs.Refused.{Why, IsFile, IsRefused}
use Rattle.c_grammar.specs.Descent.{Outcome, Done, Stop, Goes}
use Rattle.c_grammar.proofs.Exact as exact
use Rattle.c_grammar.proofs.Ranks.{the_ranks}
use Rattle.c_grammar.proofs.Tables.{the_table}
use Rattle.c_grammar.proofs.Total.{Runs, runs}

-- what the descent's end tells of the tokens
abbrev pub Found : List Placed → Outcome (List OuterTree) → Type 0
Found tokens (Done outers rest) = (rest ≡ []) × IsFile tokens (record { outers = outers })
Found tokens (Stop why rest) = IsRefused tokens rest why

pub found : (tokens : List Placed) (o : Outcome (List OuterTree)) → Goes 0 at_start (Outers []) tokens o → Found tokens o
found tokens (Done outers rest) g = (exact.exact_end the_table g, exact.exact_done the_table g)
found tokens (Stop why rest) g = exact.exact_stop the_table g

pub file_only : (tokens : List Placed) (file : FileTree) (o : Outcome (List OuterTree)) → IsFile tokens file → Goes 0 at_start (Outers []) tokens o → o ≡ Done file.outers []
file_only tokens file o f g = exact.only_done the_table o f g

pub refusal_only : (tokens rest : List Placed) (why : Why) (o : Outcome (List OuterTree)) → IsRefused tokens rest why → Goes 0 at_start (Outers []) tokens o → o ≡ Stop why rest
refusal_only tokens rest why o i g = exact.only_stop the_table o i g

run : (tokens : List Placed) → Runs 0 at_start (Outers []) tokens
run tokens = runs the_ranks 0 at_start (Outers []) tokens

pub one_file : (tokens : List Placed) (a b : FileTree) → IsFile tokens a → IsFile tokens b → a ≡ b
one_file tokens a b f h = let r = run tokens in exact.one_file the_table r.outcome r.goes f h

pub one_refusal : (tokens x y : List Placed) (why other : Why) → IsRefused tokens x why → IsRefused tokens y other → (x ≡ y) × (why ≡ other)
one_refusal tokens x y why other i j = let r = run tokens in exact.one_refusal the_table r.outcome r.goes i j

pub not_both : (tokens rest : List Placed) (why : Why) (file : FileTree) → IsFile tokens file → IsRefused tokens rest why → ⊥
not_both tokens rest why file f i = exact.not_both f i

-- a file, or refused
unfoldable pub FileOrRefused : List Placed → Type 0
FileOrRefused tokens = ((file : FileTree) × IsFile tokens file) ⊎ ((rest : List Placed) × (why : Why) × IsRefused tokens rest why)

told : (tokens : List Placed) (o : Outcome (List OuterTree)) → Found tokens o → FileOrRefused tokens
unfolding FileOrRefused
told tokens (Done outers rest) f = inl (record { outers = outers }, f.1)
told tokens (Stop why rest) f = inr (rest, why, f)

pub file_or_refused : (tokens : List Placed) → FileOrRefused tokens
file_or_refused tokens = let r = run tokens in told tokens r.outcome (found tokens r.outcome r.goes)
