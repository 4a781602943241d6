-- The parts, links and rules that are found by entries are those of the value.
use Rattle.std.proofs.Common.{◌≡◌, ℕ, Bool, true, false, cond, List, [], ◌∷◌, ◌++◌, map as each, take, Some, None, Ok, Err, codes, Option, Result, unwrap_or, sym, refl, ap, ◌∙◌}
use Rattle.json_values.specs.Meaning.{Row, bool_of as bool_in, items_of, meaning, members_of, part_in, part_of, rows_of}
use Rattle.json_values.specs.Value.{Value}
use Rattle.json_values.specs.declared.parts.Part.{Part}
use Rattle.json_values.specs.declared.table.Cell.{Cell}
use Rattle.json_values.specs.declared.table.Cell.TheVariants as cell
use Rattle.json_values.specs.declared.table.Entry.{Entry}
use Rattle.json_values.specs.declared.table.Span.{Span}
use Rattle.schema.specs.Entries.{additional_at, alone, cell_in, cell_under, elements_at, elements_under, flag_at, format_at, is_map_at, key_in, linked_at, members_at, nowhere, numbers_in, part_at, rules_at, targets_at, text_at, value_in}
use Rattle.schema.specs.Laws.{PartsMean, rule_said}
use Rattle.schema.specs.Parts.{all_items, all_keys, all_members, bool_of, elements, flag, format_of, is_map, items_list, linked, linked_by, member_in, member_keys, member_values, members, named_format, only_object, open_to, order, part, property_names, single, text_of}
use Rattle.schema.specs.RuleEntries.{and_then, free_cell, invalid, is_null as null_cell, needed_part, rule_at}
use Rattle.schema.specs.Rules.{WrittenRule, free, is_null, needed_text, rule_of, rules_of, then}
use Rattle.schema.specs.declared.format.SchemaFormat.TheVariants as format
use Rattle.schema.specs.declared.group.Group.{Group}
use Rattle.schema.specs.declared.group.Group.TheVariants.{Properties, Items, Additional, AllOf, OneOf, AnyOf}
use Rattle.schema.specs.declared.rule.InvalidRule.{InvalidRule}
use Rattle.schema.specs.declared.rule.Rule.{Rule}
use Rattle.schema.proofs.Below.{elements_below, links_below, members_below, parts_below, rules_below}
use Rattle.schema.proofs.Values.{cell_value, elements_mean, members_mean, row_at}
use Rattle.std.proofs.lemmas.List.{map-append}
use Rattle.std.proofs.lemmas.Simd.{map-map}
use Rattle.std.specs.List.{find, flat_map}
use Rattle.std.specs.Option.{ok_or, option_and_then, option_map, option_map_or}
use Rattle.std.specs.Result.{result_ok}
use Rattle.std.specs.Str.{bytes_eq}

-- ---- lists

pub each_joined : {A B G : Type 0} (f : A → B) (h : G → List A) (gs : List G) → each f (flat_map h gs) ≡ flat_map (λ g. each f (h g)) gs
each_joined f h [] = refl
each_joined f h (g ∷ gs) = map-append f (h g) (flat_map h gs) ∙ ap (λ zs. each f (h g) ++ zs) (each_joined f h gs)

pub joined_same : {A B : Type 0} (p q : A → List B) → ((g : A) → p g ≡ q g) → (gs : List A) → flat_map p gs ≡ flat_map q gs
joined_same p q h [] = refl
joined_same p q h (g ∷ gs) = ap (λ zs. zs ++ flat_map p gs) (h g) ∙ ap (λ zs. q g ++ zs) (joined_same p q h gs)

pub each_same : {A B : Type 0} (p q : A → B) → ((x : A) → p x ≡ q x) → (xs : List A) → each p xs ≡ each q xs
each_same p q h [] = refl
each_same p q h (x ∷ xs) = ap (λ y. y ∷ each p xs) (h x) ∙ ap (λ ys. q x ∷ ys) (each_same p q h xs)

module _ (t : List ℕ) (es : List Entry) where
  -- ---- parts

  -- the rows of entries, as members and as items
  rows_at : List ℕ → List Row
  rows_at ns = each (row_at t es) ns

  member_of : (key : List ℕ) (ns : List ℕ) → option_map (value_in t es) (find (λ k. bytes_eq (key_in t es k) key) ns) ≡ member_in key (members_of (rows_at ns))
  unfolding rows_at row_at
  member_of key [] = refl
  member_of key (n ∷ ns) = chosen (bytes_eq (key_in t es n) key) (find (λ k. bytes_eq (key_in t es k) key) ns) (member_in key (members_of (rows_at ns))) (member_of key ns)
    where
      chosen : (b : Bool) (o : Option ℕ) (p : Option Value) → option_map (value_in t es) o ≡ p → option_map (value_in t es) (cond b (Some n) o) ≡ cond b (Some (value_in t es n)) p
      chosen true o p h = refl
      chosen false o p h = h

  values_of : (ns : List ℕ) → each (value_in t es) ns ≡ member_values (members_of (rows_at ns))
  unfolding rows_at row_at
  values_of [] = refl
  values_of (n ∷ ns) = ap (λ xs. value_in t es n ∷ xs) (values_of ns)

  keys_of : (ns : List ℕ) → each (key_in t es) ns ≡ member_keys (members_of (rows_at ns))
  unfolding rows_at row_at
  keys_of [] = refl
  keys_of (n ∷ ns) = ap (λ xs. key_in t es n ∷ xs) (keys_of ns)

  list_of_items : (ns : List ℕ) → each (value_in t es) ns ≡ items_list (items_of (rows_at ns))
  unfolding rows_at row_at
  list_of_items [] = refl
  list_of_items (n ∷ ns) = ap (λ xs. value_in t es n ∷ xs) (list_of_items ns)

  pub part_means : (key : List ℕ) (i : ℕ) → option_map (value_in t es) (part_at t es key i) ≡ part key (value_in t es i)
  unfolding rows_at part_at
  part_means key i = by (members_at es i) ∙ sym (ap (option_and_then (member_in key)) (members_mean t es i))
    where
      by : (o : Option Span) → option_map (value_in t es) (option_and_then (λ sp. find (λ k. bytes_eq (key_in t es k) key) (numbers_in sp)) o) ≡ option_and_then (member_in key) (option_map (λ sp. members_of (each (row_at t es) (numbers_in sp))) o)
      by None = refl
      by (Some sp) = member_of key (numbers_in sp)

  -- ---- what cells hold

  said : Part → List ℕ
  said p = part_of (λ _. t) p

  -- what is told by the cell is told by the value
  by_value : {X : Type 0} (f : Value → X) (g : Cell → X) → ((rows : List Row) (x : Cell) → g x ≡ f (meaning (λ _. t) rows x)) → (k : ℕ) → g (cell_in es k) ≡ f (value_in t es k)
  by_value f g h k = h (take k (rows_of (λ _. t) es)) (cell_in es k) ∙ sym (ap f (cell_value t es k))

  bool_cells : (k : ℕ) → bool_in (cell_in es k) ≡ bool_of (value_in t es k)
  bool_cells k = by_value bool_of bool_in agree k
    where
      agree : (rows : List Row) (x : Cell) → bool_in x ≡ bool_of (meaning (λ _. t) rows x)
      agree rows cell.Null = refl
      agree rows (cell.Bool b) = refl
      agree rows (cell.Int z) = refl
      agree rows (cell.Uint n) = refl
      agree rows (cell.Text p) = refl
      agree rows (cell.List sp) = refl
      agree rows (cell.Map sp) = refl

  text_cells : (k : ℕ) → option_map said (part_in (cell_in es k)) ≡ text_of (value_in t es k)
  unfolding said
  text_cells k = by_value text_of (λ x. option_map said (part_in x)) agree k
    where
      agree : (rows : List Row) (x : Cell) → option_map said (part_in x) ≡ text_of (meaning (λ _. t) rows x)
      agree rows cell.Null = refl
      agree rows (cell.Bool b) = refl
      agree rows (cell.Int z) = refl
      agree rows (cell.Uint n) = refl
      agree rows (cell.Text p) = refl
      agree rows (cell.List sp) = refl
      agree rows (cell.Map sp) = refl

  null_cells : (k : ℕ) → null_cell (cell_in es k) ≡ is_null (value_in t es k)
  null_cells k = by_value is_null null_cell agree k
    where
      agree : (rows : List Row) (x : Cell) → null_cell x ≡ is_null (meaning (λ _. t) rows x)
      agree rows cell.Null = refl
      agree rows (cell.Bool b) = refl
      agree rows (cell.Int z) = refl
      agree rows (cell.Uint n) = refl
      agree rows (cell.Text p) = refl
      agree rows (cell.List sp) = refl
      agree rows (cell.Map sp) = refl

  -- ---- flags and formats

  pub flag_means : (key : List ℕ) (i : ℕ) → flag_at t es key i ≡ flag key (value_in t es i)
  flag_means key i = by (part_at t es key i) ∙ ap (λ o. unwrap_or (option_and_then bool_of o) false) (part_means key i)
    where
      by : (o : Option ℕ) → unwrap_or (option_and_then bool_in (option_map (cell_in es) o)) false ≡ unwrap_or (option_and_then bool_of (option_map (value_in t es) o)) false
      by None = refl
      by (Some k) = ap (λ o. unwrap_or o false) (bool_cells k)

  pub map_means : (i : ℕ) → is_map_at t es i ≡ is_map (value_in t es i)
  map_means i = by (part_at t es (codes "additionalProperties") i) ∙ ap open_to (part_means (codes "additionalProperties") i)
    where
      by : (o : Option ℕ) → option_map_or (λ c. unwrap_or (bool_in c) true) (option_map (cell_in es) o) false ≡ open_to (option_map (value_in t es) o)
      by None = refl
      by (Some k) = ap (λ o. unwrap_or o true) (bool_cells k)

  text_found : (o : Option ℕ) → option_map said (option_and_then part_in (option_map (cell_in es) o)) ≡ option_and_then text_of (option_map (value_in t es) o)
  text_found None = refl
  text_found (Some k) = text_cells k

  pub format_means : (i : ℕ) → format_at t es i ≡ format_of (value_in t es i)
  unfolding said
  format_means i =
      let s : Value = value_in t es i in
      let f : flag_at t es (codes "x-kubernetes-int-or-string") i ≡ flag (codes "x-kubernetes-int-or-string") s = flag_means (codes "x-kubernetes-int-or-string") i in
      let n : option_map said (text_at t es (codes "format") i) ≡ option_and_then text_of (part (codes "format") s) = text_found (part_at t es (codes "format") i) ∙ ap (option_and_then text_of) (part_means (codes "format") i) in
      ap (λ b. cond b format.IntOrString (named_format (option_map said (text_at t es (codes "format") i)))) f
      ∙ ap (λ o. cond (flag (codes "x-kubernetes-int-or-string") s) format.IntOrString (named_format o)) n

  -- ---- links

  members_found : (o : Option ℕ) → each (value_in t es) (numbers_in (unwrap_or (option_and_then (members_at es) o) nowhere)) ≡ all_members (option_and_then members (option_map (value_in t es) o))
  unfolding rows_at
  members_found None = refl
  members_found (Some k) = by (members_at es k) ∙ sym (ap all_members (members_mean t es k))
    where
      by : (o : Option Span) → each (value_in t es) (numbers_in (unwrap_or o nowhere)) ≡ all_members (option_map (λ sp. members_of (each (row_at t es) (numbers_in sp))) o)
      by None = refl
      by (Some sp) = values_of (numbers_in sp)

  keys_found : (o : Option ℕ) → each (key_in t es) (numbers_in (unwrap_or (option_and_then (members_at es) o) nowhere)) ≡ all_keys (option_and_then members (option_map (value_in t es) o))
  unfolding rows_at
  keys_found None = refl
  keys_found (Some k) = by (members_at es k) ∙ sym (ap all_keys (members_mean t es k))
    where
      by : (o : Option Span) → each (key_in t es) (numbers_in (unwrap_or o nowhere)) ≡ all_keys (option_map (λ sp. members_of (each (row_at t es) (numbers_in sp))) o)
      by None = refl
      by (Some sp) = keys_of (numbers_in sp)

  elements_found : (o : Option ℕ) → each (value_in t es) (numbers_in (unwrap_or (option_and_then (elements_at es) o) nowhere)) ≡ all_items (option_and_then elements (option_map (value_in t es) o))
  unfolding rows_at
  elements_found None = refl
  elements_found (Some k) = by (elements_at es k) ∙ sym (ap all_items (elements_mean t es k))
    where
      by : (o : Option Span) → each (value_in t es) (numbers_in (unwrap_or o nowhere)) ≡ all_items (option_map (λ sp. items_of (each (row_at t es) (numbers_in sp))) o)
      by None = refl
      by (Some sp) = list_of_items (numbers_in sp)

  alone_found : (o : Option ℕ) → each (value_in t es) (numbers_in (unwrap_or (option_map alone o) nowhere)) ≡ single (option_map (value_in t es) o)
  alone_found None = refl
  alone_found (Some k) = refl

  -- the object that additional properties have, as a value
  object_found : (o : Option ℕ) → option_map (value_in t es) (option_and_then (λ k. option_map (λ _. k) (members_at es k)) o) ≡ option_and_then only_object (option_map (value_in t es) o)
  object_found None = refl
  object_found (Some k) = by (members_at es k) ∙ sym (ap (option_map (λ _. value_in t es k)) (members_mean t es k))
    where
      by : (o : Option Span) → option_map (value_in t es) (option_map (λ _. k) o) ≡ option_map (λ _. value_in t es k) (option_map (λ sp. members_of (each (row_at t es) (numbers_in sp))) o)
      by None = refl
      by (Some sp) = refl

  branches_mean : (key : List ℕ) (i : ℕ) → each (value_in t es) (numbers_in (unwrap_or (elements_under t es key i) nowhere)) ≡ all_items (option_and_then elements (part key (value_in t es i)))
  branches_mean key i = elements_found (part_at t es key i) ∙ ap (λ o. all_items (option_and_then elements o)) (part_means key i)

  pub links_mean : (i : ℕ) (g : Group) → each (value_in t es) (numbers_in (targets_at t es g i)) ≡ linked_by g (value_in t es i)
  links_mean i Properties = members_found (part_at t es (codes "properties") i) ∙ ap (λ o. all_members (option_and_then members o)) (part_means (codes "properties") i)
  links_mean i Items = alone_found (part_at t es (codes "items") i) ∙ ap single (part_means (codes "items") i)
  links_mean i Additional = alone_found (additional_at t es i) ∙ ap single (object_found (part_at t es (codes "additionalProperties") i) ∙ ap (option_and_then only_object) (part_means (codes "additionalProperties") i))
  links_mean i AllOf = branches_mean (codes "allOf") i
  links_mean i OneOf = branches_mean (codes "oneOf") i
  links_mean i AnyOf = branches_mean (codes "anyOf") i

  pub names_mean : (i : ℕ) → each (key_in t es) (numbers_in (targets_at t es Properties i)) ≡ property_names (value_in t es i)
  names_mean i = keys_found (part_at t es (codes "properties") i) ∙ ap (λ o. all_keys (option_and_then members o)) (part_means (codes "properties") i)

  pub all_links_mean : (i : ℕ) → each (value_in t es) (linked_at t es i) ≡ linked (value_in t es i)
  all_links_mean i = each_joined (value_in t es) (λ g. numbers_in (targets_at t es g i)) order ∙ joined_same (λ g. each (value_in t es) (numbers_in (targets_at t es g i))) (λ g. linked_by g (value_in t es i)) (links_mean i) order

  -- ---- rules

  -- a part of a rule, by what it says
  seen : {X Y : Type 0} → (X → Y) → Result X InvalidRule → Option Y
  seen f r = option_map f (result_ok r)

  seen_or : {X Y : Type 0} (f : X → Y) (o : Option X) → seen f (ok_or o invalid) ≡ option_map f o
  unfolding seen
  seen_or f None = refl
  seen_or f (Some x) = refl

  chained : {X Y : Type 0} (f : X → Y) (a : Result X InvalidRule) (b : Option Y) (k : X → Result Rule InvalidRule) (l : Y → Option WrittenRule) → seen f a ≡ b → ((x : X) → rule_said t (k x) ≡ l (f x)) → rule_said t (and_then a k) ≡ then b l
  unfolding seen
  chained f (Ok x) b k l h g = g x ∙ ap (λ o. then o l) h
  chained f (Err e) b k l h g = ap (λ o. then o l) h

  needed_at : (i : ℕ) (key : List ℕ) → seen said (needed_part (cell_under t es key i)) ≡ needed_text (part key (value_in t es i))
  needed_at i key = seen_or said (text_at t es key i) ∙ text_found (part_at t es key i) ∙ ap (option_and_then text_of) (part_means key i)

  module _ {X Y : Type 0} (f : X → Y) (take_cell : Cell → Option X) (take_value : Value → Option Y) (agree : (k : ℕ) → option_map f (take_cell (cell_in es k)) ≡ take_value (value_in t es k)) where
    free_by : (b : Bool) (x : Option X) → seen (option_map f) (cond b (Ok None) (ok_or (option_map Some x) invalid)) ≡ cond b (Some None) (option_map Some (option_map f x))
    unfolding seen
    free_by true x = refl
    free_by false None = refl
    free_by false (Some x) = refl

    free_found : (o : Option ℕ) → seen (option_map f) (free_cell take_cell (option_map (cell_in es) o)) ≡ free take_value (option_map (value_in t es) o)
    unfolding seen
    free_found None = refl
    free_found (Some k) =
        free_by (null_cell (cell_in es k)) (take_cell (cell_in es k))
        ∙ ap (λ b. cond b (Some None) (option_map Some (option_map f (take_cell (cell_in es k))))) (null_cells k)
        ∙ ap (λ o. cond (is_null (value_in t es k)) (Some None) (option_map Some o)) (agree k)

    free_at : (i : ℕ) (key : List ℕ) → seen (option_map f) (free_cell take_cell (cell_under t es key i)) ≡ free take_value (part key (value_in t es i))
    free_at i key = free_found (part_at t es key i) ∙ ap (free take_value) (part_means key i)

  bool_same : (k : ℕ) → option_map (λ b. b) (bool_in (cell_in es k)) ≡ bool_of (value_in t es k)
  bool_same k = same (bool_in (cell_in es k)) ∙ bool_cells k
    where
      same : (o : Option Bool) → option_map (λ b. b) o ≡ o
      same None = refl
      same (Some b) = refl

  pub rule_found : (i : ℕ) → rule_said t (rule_at t es i) ≡ rule_of (value_in t es i)
  unfolding said
  rule_found i =
      let texts = free_at said part_in text_of text_cells i in
      chained said _ _ _ _ (needed_at i (codes "rule")) (λ r.
      chained (option_map said) _ _ _ _ (texts (codes "message")) (λ m.
      chained (option_map said) _ _ _ _ (texts (codes "messageExpression")) (λ x.
      chained (option_map said) _ _ _ _ (texts (codes "reason")) (λ w.
      chained (option_map said) _ _ _ _ (texts (codes "fieldPath")) (λ f.
      chained (option_map (λ b. b)) _ _ _ _ (free_at (λ b. b) bool_in bool_of bool_same i (codes "optionalOldSelf")) (λ o. written r m x w f o))))))
    where
      written : (r : Part) (m x w f : Option Part) (o : Option Bool) → rule_said t (Ok (record { rule = r; message = m; message_expression = x; reason = w; field_path = f; optional_old_self = o })) ≡ Some (record { rule = said r; message = option_map said m; message_expression = option_map said x; reason = option_map said w; field_path = option_map said f; optional_old_self = option_map (λ b. b) o })
      written r m x w f None = refl
      written r m x w f (Some b) = refl

  pub rules_found : (i : ℕ) → each (λ k. rule_said t (rule_at t es k)) (numbers_in (rules_at t es i)) ≡ rules_of (value_in t es i)
  rules_found i =
      each_same (λ k. rule_said t (rule_at t es k)) (λ k. rule_of (value_in t es k)) rule_found (numbers_in (rules_at t es i))
      ∙ (sym (map-map rule_of (value_in t es) (numbers_in (rules_at t es i)))
      ∙ ap (each rule_of) (branches_mean (codes "x-kubernetes-validations") i))

  pub parts_mean : (i : ℕ) → PartsMean t es i
  parts_mean i = record {
    parts = λ key. part_means key i;
    flags = λ key. flag_means key i;
    maps = map_means i;
    formats = format_means i;
    links = links_mean i;
    all_links = all_links_mean i;
    names = names_mean i;
    rule = rule_found i;
    rules = rules_found i;
    members_below = members_below es i;
    elements_below = elements_below es i;
    parts_below = λ key. parts_below t es key i;
    links_below = λ g. links_below t es g i;
    rules_below = rules_below t es i;
  }
