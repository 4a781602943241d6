-- What is built follows the scanner's machine, act by act.
use Rattle.std.proofs.Common.{◌≡◌, ℕ, suc, ◌+◌, ◌-◌, ◌<◌, ◌≤◌, ltb, List, [], ◌∷◌, ◌++◌, map, reverse, length, get_or, take, drop, Some, Option, sym, refl, ap, ◌∙◌, subst, ⊎_elim, arith}
use Rattle.std.proofs.Math.Utf8.{encode}
use Rattle.fixed.specs.Listed.{last}
use Rattle.fixed.specs.Room.{extended, fits}
use Rattle.json_values.specs.declared.parts.Part.{Part}
use Rattle.json_values.specs.declared.parts.Source.{Source}
use Rattle.json_values.specs.declared.table.Cell.{Cell}
use Rattle.json_values.specs.declared.table.Cell.TheVariants as cell
use Rattle.json_values.specs.declared.table.Entry.{Entry}
use Rattle.json_values.specs.Meaning.{Row, no_row, no_entry, items_of, members_of, row_of, rows_of}
use Rattle.json_values.specs.Value as value
use Rattle.json_scanner.specs.Grammar.{Tree, Trees, Members}
use Rattle.json_scanner.specs.Grammar as written
use Rattle.json_scanner.specs.Holds.{Room, Counts}
use Rattle.json_scanner.specs.Machine.{Frame, bare, sole, items, fields, field, kind, kinds, put, naming, wrapped, State, bytes_of, performed, closed}
use Rattle.json_scanner.specs.declared.modes.Act.{Act}
use Rattle.json_scanner.specs.declared.modes.Act.TheVariants as act
use Rattle.json_scanner.specs.declared.modes.Container.{Container}
use Rattle.json_scanner.specs.declared.modes.Container.TheVariants as container
use Rattle.json_scanner.specs.declared.modes.Piece.{Piece}
use Rattle.json_scanner.specs.declared.modes.Piece.TheVariants as piece
use Rattle.json_scanner.specs.declared.modes.Mode.{Mode}
use Rattle.json_scanner.specs.declared.modes.Mode.TheVariants as mode
use Rattle.json_reader.proofs.Cores.{Over, Reads, Means, Matches, Core, here, over_here, core_text, cut_reads, core_put, core_length, core_depth, core_open, core_name, innermost_open, span_rows, core_close, core_inner}
use Rattle.json_reader.proofs.Frames.{raw_rows, frame_rows, all_rows, frame_key, Ready, Keyed, Done, Closing, Around, Fit, begun_in, credit}
use Rattle.json_reader.proofs.Members.{member_kids, members-length}
use Rattle.json_reader.proofs.Turning.{Goes, piece_size}
use Rattle.json_reader.specs.Building.{Built, acted, closed_in, no_key, valued, opened, moved_in, container_cell}
use Rattle.json_reader.specs.Sifted.{key_of, added, picked, sifted}
use Rattle.json_reader.specs.Values.{value_of, item_rows, member_rows}
use Rattle.json_reader.specs.declared.builder.Open.{Open}
use Rattle.std.proofs.lemmas.List.{append_assoc, append-nil, drop-append-le, drop_all, take_at, length-append, length_push, length-map, length-drop, length-take-le, get_or-map, get_or_past, get_or_push}
use Rattle.std.proofs.lemmas.Option.{slice_get-get_or}
use Rattle.std.proofs.lemmas.Bool.{cond-true, cond_both, le-leb, cases_lt}

-- a text of which i bytes are read, into a store that held a bytes and a table that held b entries
pub record Holds (source : Source) (a b i : ℕ) (m : Built) (st : State) : Type 0 where
  pub core : Core source m.text m.table m.notes.pending m.notes.opens m.notes.key st.top st.below
  pub fit : Fit st.mode st.top st.below
  pub around : Around st.below
  pub begun : m.notes.begun ≤ length m.text
  pub chars : drop m.notes.begun m.text ≡ st.chars
  pub base : b ≤ length m.table
  pub counts : length m.table + length m.notes.pending + length m.notes.opens + begun_in st.mode ≤ b + st.values
  pub few : st.values ≤ 4096
  pub size : length m.text + credit st.mode ≤ a + i

last_push : (os : List Open) (o : Open) → last (os ++ o ∷ []) ≡ Some o
last_push os o =
    let n : length (os ++ o ∷ []) ≡ length os + 1 = length_push os o in
    let k : length (os ++ o ∷ []) - 1 < length (os ++ o ∷ []) = omega arith in
    slice_get-get_or (os ++ o ∷ []) (length (os ++ o ∷ []) - 1) o k ∙ ap Some (get_or_push os o o (length (os ++ o ∷ []) - 1) (omega arith))

-- ---- what fits

pub extended_in : {X : Type 0} (room : ℕ) (xs more : List X) → length xs + length more ≤ room → extended room xs more ≡ xs ++ more
extended_in room xs more h = cond-true (fits room xs more) (xs ++ more) xs (le-leb (length xs + length more) room h)

added_in : (t es : List Entry) → length t + length es ≤ 8192 → added 8192 t es ≡ t ++ es
unfolding added
added_in t [] h = sym (append-nil t)
added_in t (e ∷ es) h =
    let one : extended 8192 t (e ∷ []) ≡ t ++ e ∷ [] = extended_in 8192 t (e ∷ []) (omega arith) in
    ap (λ (z : List Entry). added 8192 z es) one ∙ (added_in (t ++ e ∷ []) es (omega (arith, length_push t e)) ∙ append_assoc t (e ∷ []) es)

encode_short : (c : ℕ) → length (encode c) ≤ 4
unfolding encode
encode_short c =
    cond_both (ltb c 128) _ _ (λ (z : List ℕ). length z ≤ 4) (λ _. omega arith)
    (λ _. cond_both (ltb c 2048) _ _ (λ (z : List ℕ). length z ≤ 4) (λ _. omega arith)
    (λ _. cond_both (ltb c 65536) _ _ (λ (z : List ℕ). length z ≤ 4) (λ _. omega arith) (λ _. omega arith)))

piece_short : (p : Piece) → length (bytes_of p) ≤ piece_size p
piece_short (piece.Byte b) = omega arith
piece_short (piece.Char c) = encode_short c

-- ---- a value is put

put_done : (f : Frame) (gs : List Frame) (v : Tree) → Ready f gs → Done (put f v) gs
put_done bare gs v h = h
put_done (sole u) gs v h = absurd h
put_done (items ts) gs v h = h
put_done (fields ms) gs v h = absurd h
put_done (field ms k) gs v h = h

module _ {source : Source} {a b i : ℕ} {m : Built} {st : State} (h : Holds source a b i m st) where
  pub put_holds : (x : Cell) (place : ℕ) (v : Tree) (bg : ℕ) (cs : List ℕ) (vs i' : ℕ) (n : Mode) → Ready st.top st.below → Means source m.text m.table x v
      → bg ≤ length m.text → drop bg m.text ≡ cs → length m.table + length m.notes.pending + length m.notes.opens + 1 ≤ b + vs → vs ≤ 4096 → i ≤ i' → n ≡ mode.After
      → Holds source a b i' (record { notes = valued x place (record { pending = m.notes.pending; opens = m.notes.opens; key = m.notes.key; begun = bg; place = m.notes.place }); text = m.text; table = m.table })
      (record { mode = n; values = vs; chars = cs; top = put st.top v; below = st.below })
  put_holds x place v bg cs vs i' n r means le e cnt few later is =
      let ps = m.notes.pending in
      let y : Entry = record { key = m.notes.key; place = place; cell = x } in
      let fit : length ps + 1 ≤ 4096 = omega (arith, h.base) in
      let ext : extended 4096 ps (y ∷ []) ≡ ps ++ y ∷ [] = extended_in 4096 ps (y ∷ []) fit in
      let long : length (extended 4096 ps (y ∷ [])) ≡ length ps + 1 = ap length ext ∙ length_push ps y in
      let none : begun_in n ≡ 0 = ap begun_in is in
      let free : credit n ≡ 0 = ap credit is in
      record {
        core = subst (λ (z : List Entry). Core source m.text m.table z m.notes.opens no_key (put st.top v) st.below) (sym ext) (core_put x place v r means h.core);
        fit = subst (λ (k : Mode). Fit k (put st.top v) st.below) (sym is) (put_done st.top st.below v r);
        around = h.around;
        begun = le;
        chars = e;
        base = h.base;
        counts = omega arith;
        few = few;
        size = omega (arith, h.size);
      }

-- ---- a container closes

module _ {source : Source} {w : List ℕ} {t ps : List Entry} {os : List Open} {k : Part} {g : Frame} {gs : List Frame} (o : Open) (first : o.first ≡ length (all_rows g gs)) where
  list_means : (ts : Trees) → Core source w t ps os k (items ts) (g ∷ gs) → (count : ℕ) → count ≡ length (drop o.first ps) → Means source w (t ++ drop o.first ps) (cell.List (record { first = length t; count = count })) (written.list ts)
  unfolding value_of
  list_means ts c count n texts ov later =
      ap (λ (rs : List Row). value.list (items_of rs)) (span_rows texts t (drop o.first ps) (item_rows ts) later count n (core_inner o.first first c texts ov))

  module _ (ms : Members) (c : Core source w t ps os k (fields ms) (g ∷ gs)) where
    key_is : (i : ℕ) → key_of w ps i ≡ (get_or (all_rows g gs ++ raw_rows ms) i no_row).key
    key_is i =
        let row = row_of (here w) (rows_of (here w) (t ++ [])) in
        let rows = c.rows (here w) (over_here source w) [] in
        ⊎_elim
        (λ (l : i < length ps). ap (λ (r : Row). r.key) (sym (get_or-map row ps i no_entry no_row l) ∙ ap (λ (z : List Row). get_or z i no_row) rows))
        (λ (l : length ps ≤ i).
        let n : length (all_rows g gs ++ raw_rows ms) ≤ i = omega (arith, core_length c) in
        ap (λ (e : Entry). take e.key.len (drop e.key.start w)) (get_or_past ps i no_entry l) ∙ sym (ap (λ (r : Row). r.key) (get_or_past (all_rows g gs ++ raw_rows ms) i no_row n)))
        (cases_lt i (length ps))

    map_kids : (texts : Source → List ℕ) → Over source w texts → (later : List Entry) → map (row_of texts (rows_of texts (t ++ later))) (picked ps (sifted w ps o.first)) ≡ member_rows ms
    map_kids texts ov later =
        ap (λ (n : ℕ). map (row_of texts (rows_of texts (t ++ later))) (picked ps (sifted w ps n))) first
        ∙ member_kids w ps (row_of texts (rows_of texts (t ++ later))) (all_rows g gs) ms key_is (c.rows texts ov later)

    map_means : (count : ℕ) → count ≡ length (picked ps (sifted w ps o.first)) → Means source w (t ++ picked ps (sifted w ps o.first)) (cell.Map (record { first = length t; count = count })) (written.object ms)
    unfolding value_of
    map_means count n texts ov later =
        ap (λ (rs : List Row). value.map (members_of rs)) (span_rows texts t (picked ps (sifted w ps o.first)) (member_rows ms) later count n (map_kids texts ov))

    map_few : length (picked ps (sifted w ps o.first)) + o.first ≤ length ps
    map_few =
        let row = row_of (here w) (rows_of (here w) (t ++ [])) in
        let n : length (picked ps (sifted w ps o.first)) ≡ length (member_rows ms) = sym (length-map (picked ps (sifted w ps o.first)) row) ∙ ap length (map_kids (here w) (over_here source w) []) in
        omega (arith, members-length ms, core_length c, length-append (all_rows g gs) (raw_rows ms), first)

-- the container waits in place of its children, once they are in the table
wrap_holds : {source : Source} (a b i : ℕ) (m : Built) (f g : Frame) (gs : List Frame) (o : Open) (rest : List Open) (kids : List Entry) (x : Cell) (cs : List ℕ) (vs : ℕ) (n : Mode)
    → Core source m.text m.table m.notes.pending m.notes.opens m.notes.key f (g ∷ gs)
    → m.notes.opens ≡ rest ++ o ∷ [] → o.first ≡ length (all_rows g gs) → Reads source m.text o.key (frame_key g) → Matches source m.text (reverse rest) g gs
    → Means source m.text (m.table ++ kids) x (wrapped f) → length kids + o.first ≤ length m.notes.pending → Ready g gs → Around gs
    → m.notes.begun ≤ length m.text → drop m.notes.begun m.text ≡ cs → b ≤ length m.table
    → length m.table + length m.notes.pending + length m.notes.opens ≤ b + vs → vs ≤ 4096 → length m.text ≤ a + i → n ≡ mode.After
    → Holds source a b (i + 1) (record { notes = record { pending = extended 4096 (take o.first m.notes.pending) (record { key = o.key; place = o.place; cell = x } ∷ []); opens = take (length m.notes.opens - 1) m.notes.opens; key = no_key; begun = m.notes.begun; place = m.notes.place }; text = m.text; table = m.table ++ kids })
    (record { mode = n; values = vs; chars = cs; top = put g (wrapped f); below = gs })
wrap_holds {source} a b i m f g gs o rest kids x cs vs n c split first reads match means less ready around begun chars base counts few size is =
    let ps = m.notes.pending in
    let os = m.notes.opens in
    let y : Entry = record { key = o.key; place = o.place; cell = x } in
    let deep : length os ≡ length rest + 1 = ap length split ∙ length_push rest o in
    let short : length (take o.first ps) ≡ o.first = length-take-le o.first ps (omega arith) in
    let ext : extended 4096 (take o.first ps) (y ∷ []) ≡ take o.first ps ++ y ∷ [] = extended_in 4096 (take o.first ps) (y ∷ []) (omega arith) in
    let long : length (extended 4096 (take o.first ps) (y ∷ [])) ≡ o.first + 1 = ap length ext ∙ (length_push (take o.first ps) y ∙ ap (λ k. k + 1) short) in
    let out : take (length os - 1) os ≡ rest = ap (take (length os - 1)) split ∙ take_at rest (o ∷ []) (length os - 1) (omega arith) in
    let outer : length (take (length os - 1) os) ≡ length rest = ap length out in
    let none : begun_in n ≡ 0 = ap begun_in is in
    let free : credit n ≡ 0 = ap credit is in
    let tall = length-append m.table kids in
    let put_in : Core source m.text (m.table ++ kids) (take o.first ps ++ y ∷ []) rest no_key (put g (wrapped f)) gs = core_put x o.place (wrapped f) ready means (core_close o kids first reads match c) in
    record {
      core = subst (λ (z : List Open). Core source m.text (m.table ++ kids) (extended 4096 (take o.first ps) (y ∷ [])) z no_key (put g (wrapped f)) gs) (sym out)
          (subst (λ (z : List Entry). Core source m.text (m.table ++ kids) z rest no_key (put g (wrapped f)) gs) (sym ext) put_in);
      fit = subst (λ (k : Mode). Fit k (put g (wrapped f)) gs) (sym is) (put_done g gs (wrapped f) ready);
      around = around;
      begun = begun;
      chars = chars;
      base = omega arith;
      counts = omega arith;
      few = few;
      size = omega arith;
    }

-- what closing leaves, by the container's kind
abbrev shut : Open → Container → Built → Built
shut o k m = record {
  notes = record { pending = extended 4096 (take o.first m.notes.pending) (record { key = o.key; place = o.place; cell = container_cell k (record { first = length m.table; count = length (moved_in k m.text m.notes.pending o.first m.table) - length m.table }) } ∷ []); opens = take (length m.notes.opens - 1) m.notes.opens; key = no_key; begun = m.notes.begun; place = m.notes.place };
  text = m.text;
  table = moved_in k m.text m.notes.pending o.first m.table;
}

abbrev shut_in : Open → Built → (List Entry → Cell) → List Entry → Built
shut_in o m x t = record {
  notes = record { pending = extended 4096 (take o.first m.notes.pending) (record { key = o.key; place = o.place; cell = x t } ∷ []); opens = take (length m.notes.opens - 1) m.notes.opens; key = no_key; begun = m.notes.begun; place = m.notes.place };
  text = m.text;
  table = t;
}

close_list : {source : Source} (a b i : ℕ) (m : Built) (ts : Trees) (g : Frame) (gs : List Frame) (o : Open) (rest : List Open) (cs : List ℕ) (vs : ℕ) (n : Mode)
    → Core source m.text m.table m.notes.pending m.notes.opens m.notes.key (items ts) (g ∷ gs)
    → m.notes.opens ≡ rest ++ o ∷ [] → o.first ≡ length (all_rows g gs) → Reads source m.text o.key (frame_key g) → Matches source m.text (reverse rest) g gs
    → Ready g gs → Around gs → m.notes.begun ≤ length m.text → drop m.notes.begun m.text ≡ cs → b ≤ length m.table
    → length m.table + length m.notes.pending + length m.notes.opens ≤ b + vs → vs ≤ 4096 → b + 4096 ≤ 8192 → length m.text ≤ a + i → n ≡ mode.After
    → Holds source a b (i + 1) (shut o container.List m) (record { mode = n; values = vs; chars = cs; top = put g (written.list ts); below = gs })
close_list {source} a b i m ts g gs o rest cs vs n c split first reads match ready around begun chars base counts few tall size is =
    let ps = m.notes.pending in
    let t = m.table in
    let kids : List Entry = drop o.first ps in
    let k : length kids ≡ length ps - o.first = length-drop o.first ps in
    let inside : o.first ≤ length ps = omega (arith, core_length c, length-append (all_rows g gs) (item_rows ts)) in
    let ext : extended 8192 t kids ≡ t ++ kids = extended_in 8192 t kids (omega arith) in
    let count : length (t ++ kids) - length t ≡ length kids = omega (arith, length-append t kids) in
    subst (λ (z : List Entry). Holds source a b (i + 1) (shut_in o m (λ (u : List Entry). cell.List (record { first = length t; count = length u - length t })) z) (record { mode = n; values = vs; chars = cs; top = put g (written.list ts); below = gs })) (sym ext)
    (wrap_holds a b i m (items ts) g gs o rest kids (cell.List (record { first = length t; count = length (t ++ kids) - length t })) cs vs n c split first reads match (list_means o first ts c (length (t ++ kids) - length t) count) (omega arith) ready around begun chars base counts few size is)

close_map : {source : Source} (a b i : ℕ) (m : Built) (ms : Members) (g : Frame) (gs : List Frame) (o : Open) (rest : List Open) (cs : List ℕ) (vs : ℕ) (n : Mode)
    → Core source m.text m.table m.notes.pending m.notes.opens m.notes.key (fields ms) (g ∷ gs)
    → m.notes.opens ≡ rest ++ o ∷ [] → o.first ≡ length (all_rows g gs) → Reads source m.text o.key (frame_key g) → Matches source m.text (reverse rest) g gs
    → Ready g gs → Around gs → m.notes.begun ≤ length m.text → drop m.notes.begun m.text ≡ cs → b ≤ length m.table
    → length m.table + length m.notes.pending + length m.notes.opens ≤ b + vs → vs ≤ 4096 → b + 4096 ≤ 8192 → length m.text ≤ a + i → n ≡ mode.After
    → Holds source a b (i + 1) (shut o container.Object m) (record { mode = n; values = vs; chars = cs; top = put g (written.object ms); below = gs })
close_map {source} a b i m ms g gs o rest cs vs n c split first reads match ready around begun chars base counts few tall size is =
    let ps = m.notes.pending in
    let t = m.table in
    let kids : List Entry = picked ps (sifted m.text ps o.first) in
    let less : length kids + o.first ≤ length ps = map_few o first ms c in
    let ext : added 8192 t kids ≡ t ++ kids = added_in t kids (omega arith) in
    let count : length (t ++ kids) - length t ≡ length kids = omega (arith, length-append t kids) in
    subst (λ (z : List Entry). Holds source a b (i + 1) (shut_in o m (λ (u : List Entry). cell.Map (record { first = length t; count = length u - length t })) z) (record { mode = n; values = vs; chars = cs; top = put g (written.object ms); below = gs })) (sym ext)
    (wrap_holds a b i m (fields ms) g gs o rest kids (cell.Map (record { first = length t; count = length (t ++ kids) - length t })) cs vs n c split first reads match (map_means o first ms c (length (t ++ kids) - length t) count) less ready around begun chars base counts few size is)

-- ---- the acts

kinds-length : (f : Frame) (gs : List Frame) → length (kinds f gs) ≡ length gs
kinds-length f [] = refl
kinds-length f (g ∷ gs) = ap suc (kinds-length g gs)

module _ (source : Source) (a b i : ℕ) (m : Built) (wide : a + i < 65535) (tall : b + 4096 ≤ 8192) where
  grown : (x : List ℕ) (st : State) (n : Mode) (vs : ℕ) → Holds source a b i m st → Fit n st.top st.below → begun_in n ≤ begun_in st.mode → length x + credit n ≤ credit st.mode + 1 → vs ≡ st.values
      → Holds source a b (i + 1) (record { notes = m.notes; text = m.text ++ x; table = m.table }) (record { mode = n; values = vs; chars = st.chars ++ x; top = st.top; below = st.below })
  grown x st n vs h fit bg cr same = record {
    core = core_text x h.core;
    fit = fit;
    around = h.around;
    begun = omega (arith, h.begun, length-append m.text x);
    chars = drop-append-le m.notes.begun m.text x h.begun ∙ ap (λ z. z ++ x) h.chars;
    base = h.base;
    counts = omega (arith, h.counts);
    few = omega (arith, h.few);
    size = omega (arith, h.size, length-append m.text x);
  }

  opening-holds : (k : Container) (f' : Frame) (st : State) (n n' : Mode) → Holds source a b i m st → Ready st.top st.below → n ≡ n' → Fit n' f' (st.top ∷ st.below) → begun_in n' ≡ 0 → credit n' ≡ 0 → frame_rows f' ≡ [] → [] ≡ frame_key f' → k ≡ kind f' → length (kinds st.top st.below) < 200 → st.values < 4096
      → Holds source a b (i + 1) (record { notes = opened k i m.notes; text = m.text; table = m.table }) (record { mode = n; values = st.values + 1; chars = st.chars; top = f'; below = st.top ∷ st.below })
  opening-holds k f' st n n' h ready is fit bg cr none keyless same deep few =
      let os = m.notes.opens in
      let y : Open = record { container = k; first = length m.notes.pending; key = m.notes.key; place = i } in
      let room : length os + 1 ≤ 200 = omega (arith, core_depth h.core, kinds-length st.top st.below) in
      let ext : extended 200 os (y ∷ []) ≡ os ++ y ∷ [] = extended_in 200 os (y ∷ []) room in
      let long : length (extended 200 os (y ∷ [])) ≡ length os + 1 = ap length ext ∙ length_push os y in
      let nb : begun_in n ≡ 0 = ap begun_in is ∙ bg in
      let nc : credit n ≡ 0 = ap credit is ∙ cr in
      record {
        core = subst (λ (z : List Open). Core source m.text m.table m.notes.pending z no_key f' (st.top ∷ st.below)) (sym ext) (core_open f' k i none keyless same h.core);
        fit = subst (λ (z : Mode). Fit z f' (st.top ∷ st.below)) (sym is) fit;
        around = (ready, h.around);
        begun = h.begun;
        chars = h.chars;
        base = h.base;
        counts = omega (arith, h.counts);
        few = omega arith;
        size = omega (arith, h.size);
      }

  scalar-holds : (x : Cell) (v : Tree) (st : State) (n : Mode) → Holds source a b i m st → Means source m.text m.table x v → Ready st.top st.below × (n ≡ mode.After) × (1 ≤ begun_in st.mode)
      → Holds source a b (i + 1) (record { notes = valued x m.notes.place m.notes; text = m.text; table = m.table }) (record { mode = n; values = st.values; chars = st.chars; top = put st.top v; below = st.below })
  scalar-holds x v st n h means g =
      put_holds h x m.notes.place v m.notes.begun st.chars st.values (i + 1) n g.0 means h.begun h.chars (omega (arith, h.counts, g.2)) h.few (omega arith) g.1

  key_holds : (f : Frame) (gs : List Frame) (st : State) (n : Mode) → st.top ≡ f → st.below ≡ gs → Holds source a b i m st → Keyed f gs → n ≡ mode.Colon
      → Holds source a b (i + 1) (acted source i act.Key m) (record { mode = n; values = st.values; chars = []; top = naming f st.chars; below = gs })
  key_holds bare gs st n p q h k is = absurd k
  key_holds (sole v) gs st n p q h k is = absurd k
  key_holds (items ts) gs st n p q h k is = absurd k
  key_holds (fields ms) gs st n p q h k is =
      let nb : begun_in n ≡ 0 = ap begun_in is in
      let nc : credit n ≡ 0 = ap credit is in
      let c : Core source m.text m.table m.notes.pending m.notes.opens m.notes.key (fields ms) gs = subst (λ (z : List Frame). Core source m.text m.table m.notes.pending m.notes.opens m.notes.key (fields ms) z) q (subst (λ (z : Frame). Core source m.text m.table m.notes.pending m.notes.opens m.notes.key z st.below) p h.core) in
      record {
        core = core_name (record { source = source; start = m.notes.begun; len = length m.text - m.notes.begun }) st.chars (cut_reads source m.text st.chars m.notes.begun h.begun h.chars) c;
        fit = subst (λ (z : Mode). Fit z (field ms st.chars) gs) (sym is) k;
        around = subst Around q h.around;
        begun = omega arith;
        chars = drop_all (length m.text) m.text (omega arith);
        base = h.base;
        counts = omega (arith, h.counts);
        few = h.few;
        size = omega (arith, h.size);
      }
  key_holds (field ms j) gs st n p q h k is = absurd k

  close_holds : (f : Frame) (gs : List Frame) (st : State) (n : Mode) → st.top ≡ f → st.below ≡ gs → Holds source a b i m st → Closing f gs → n ≡ mode.After
      → Holds source a b (i + 1) (acted source i act.Close m) (closed n st.values st.chars f gs)
  close_holds f [] st n p q h k is = nowhere f k
    where
      nowhere : {A : Type 0} (f : Frame) → Closing f [] → A
      nowhere bare k = absurd k
      nowhere (sole v) k = absurd k
      nowhere (items ts) k = absurd k
      nowhere (fields ms) k = absurd k
      nowhere (field ms j) k = absurd k
  close_holds f (g ∷ gs) st n p q h k is =
      let c : Core source m.text m.table m.notes.pending m.notes.opens m.notes.key f (g ∷ gs) = subst (λ (z : List Frame). Core source m.text m.table m.notes.pending m.notes.opens m.notes.key f z) q (subst (λ (z : Frame). Core source m.text m.table m.notes.pending m.notes.opens m.notes.key z st.below) p h.core) in
      let d = innermost_open source m.text m.notes.opens f g gs c.opens in
      let o : Open = d.0 in
      let found : last m.notes.opens ≡ Some o = ap last d.2 ∙ last_push d.1 o in
      let around : Ready g gs × Around gs = subst Around q h.around in
      let counts : length m.table + length m.notes.pending + length m.notes.opens ≤ b + st.values = omega (arith, h.counts) in
      let size : length m.text ≤ a + i = omega (arith, h.size) in
      subst (λ (z : Option Open). Holds source a b (i + 1) (closed_in z m) (closed n st.values st.chars f (g ∷ gs))) (sym found)
      (subst (λ (z : Container). Holds source a b (i + 1) (shut o z m) (closed n st.values st.chars f (g ∷ gs))) (sym d.3)
      (by f c k o d.1 d.2 d.4 d.5 d.6 around counts size))
    where
      by : (f : Frame) → Core source m.text m.table m.notes.pending m.notes.opens m.notes.key f (g ∷ gs) → Closing f (g ∷ gs) → (o : Open) (rest : List Open) → m.notes.opens ≡ rest ++ o ∷ [] → o.first ≡ length (all_rows g gs) → Reads source m.text o.key (frame_key g) → Matches source m.text (reverse rest) g gs → Ready g gs × Around gs
          → length m.table + length m.notes.pending + length m.notes.opens ≤ b + st.values → length m.text ≤ a + i → Holds source a b (i + 1) (shut o (kind f) m) (closed n st.values st.chars f (g ∷ gs))
      by bare c k o rest split first reads match around counts size = absurd k
      by (sole v) c k o rest split first reads match around counts size = absurd k
      by (items ts) c k o rest split first reads match around counts size =
          close_list a b i m ts g gs o rest st.chars st.values n c split first reads match around.0 around.1 h.begun h.chars h.base counts h.few tall size is
      by (fields ms) c k o rest split first reads match around counts size =
          close_map a b i m ms g gs o rest st.chars st.values n c split first reads match around.0 around.1 h.begun h.chars h.base counts h.few tall size is
      by (field ms j) c k o rest split first reads match around counts size = absurd k

  pub perform_holds : (st : State) (x : Act) (n : Mode) → Holds source a b i m st → Goes st.mode st.top st.below x n → Room x (length (kinds st.top st.below)) → Counts x st.values
      → Holds source a b (i + 1) (acted source i x m) (performed x n st)
  unfolding value_of item_rows raw_rows
  perform_holds st act.Stay n h g r c = record { core = h.core; fit = g.0; around = h.around; begun = h.begun; chars = h.chars; base = h.base; counts = omega (arith, h.counts, g.1); few = h.few; size = omega (arith, h.size, g.2) }
  perform_holds st act.Begin n h g r c = record { core = h.core; fit = g.0; around = h.around; begun = h.begun; chars = h.chars; base = h.base; counts = omega (arith, h.counts, g.1); few = omega arith; size = omega (arith, h.size, g.2) }
  perform_holds st (act.Open container.List) n h g r c = opening-holds container.List (items written.nil) st n mode.First h g.0 g.1 tt refl refl refl refl refl r c
  perform_holds st (act.Open container.Object) n h g r c = opening-holds container.Object (fields written.none) st n mode.FirstKey h g.0 g.1 tt refl refl refl refl refl r c
  perform_holds st act.Close n h g r c = close_holds st.top st.below st n refl refl h g.0 g.1
  perform_holds st (act.Add p) n h g r c =
      let short = piece_short p in
      let ext : extended 65535 m.text (bytes_of p) ≡ m.text ++ bytes_of p = extended_in 65535 m.text (bytes_of p) (omega (arith, h.size, g.2)) in
      subst (λ (z : List ℕ). Holds source a b (i + 1) (record { notes = m.notes; text = z; table = m.table }) (performed (act.Add p) n st)) (sym ext)
      (grown (bytes_of p) st n st.values h g.0 g.1 (omega (arith, g.2)) refl)
  perform_holds st act.Key n h g r c = key_holds st.top st.below st n refl refl h g.0 g.1
  perform_holds st act.Text n h g r c =
      put_holds h (cell.Text (record { source = source; start = m.notes.begun; len = length m.text - m.notes.begun })) m.notes.place (written.text st.chars) (length m.text) [] st.values (i + 1) n g.0
      (λ texts ov later. ap value.text (cut_reads source m.text st.chars m.notes.begun h.begun h.chars texts ov))
      (omega arith) (drop_all (length m.text) m.text (omega arith)) (omega (arith, h.counts, g.2)) h.few (omega arith) g.1
  perform_holds st act.Null n h g r c = scalar-holds cell.Null written.null st n h (λ texts ov later. refl) g
  perform_holds st (act.Bool y) n h g r c = scalar-holds (cell.Bool y) (written.bool y) st n h (λ texts ov later. refl) g
