-- How many rules of a schema are invalid or ill, and the line that says so.
use Rattle.std.specs.Prelude.{ℕ, Bool, true, false, List, [], ◌∷◌, ◌++◌, length, codes, count_by, decimal}
use Rattle.compilation.specs.Fates.{Fate, ill_message, ill_rule, invalid, ready}
use Rattle.compiled_schema.specs.Holds.{Held}
use Rattle.schema_report.specs.declared.summary.Summary.{Summary}

abbrev pub is_invalid : Fate → Bool
is_invalid invalid = true
is_invalid (ill_rule t) = false
is_invalid (ill_message t) = false
is_invalid (ready n b p) = false

abbrev pub is_ill : Fate → Bool
is_ill invalid = false
is_ill (ill_rule t) = true
is_ill (ill_message t) = true
is_ill (ready n b p) = false

abbrev pub summary_of : Held → Summary
summary_of h = record { nodes = length h.tables.nodes; rules = length h.fates; invalid = count_by is_invalid h.fates; ill = count_by is_ill h.fates }

-- `N nodes, N rules, N invalid, N ill`
abbrev pub summary_text : Summary → List ℕ
summary_text s = decimal s.nodes ++ (codes " nodes, " ++ (decimal s.rules ++ (codes " rules, " ++ (decimal s.invalid ++ (codes " invalid, " ++ (decimal s.ill ++ codes " ill"))))))

-- that, and the end of the line
abbrev pub summary_line : Summary → List ℕ
summary_line s = summary_text s ++ 10 ∷ []
