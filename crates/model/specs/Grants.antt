-- What a grant does: demand 2 in terms of the public calls, and the operations as a driver takes them.
use Rattle.std.specs.Prelude.{◌≡◌, ◌⊎◌, ◌↔◌, Bool, List, [], ◌∷◌, ◌++◌, ℕ, ◌+◌, ◌-◌, ◌*◌, ◌≤◌, ◌<◌, leb, ltb, eqb, length, get_or, drop, replicate}
use Rattle.std.specs.Prelude.{None, Option, Some, option_and_then, option_map}
use mathlib.Core.List.{flat_map}
use Rattle.model.specs.Prelude.{Space, Mapping, Request, Rests, Lower, Upper, Both, Operation, Map}
use Rattle.model.specs.Prelude.{Remap, Unmap, Shown, Object, Grant}
use Rattle.model.specs.Calls.{all, choose, answered, end, stop, Table, mappings, ranges, bare, operations}
use Rattle.model.specs.Calls.{rests_of, old, rests, words_of_operation, translate, Asking, asked, Lent, bind}
use Rattle.model.specs.Calls.{lent_after, see_in, lookup, shown_reply}
use Rattle.model.specs.Layout.{operation_in}
use Rattle.model.specs.Exactly.{Each, ◌∈◌, ShareByte, Ascends, TableRules, Unflagged, Agree, Pins}

-- what a byte address shows in what is lent; off mappings sparse or nothing, as the list says
abbrev pub off_mappings : Lent → ℕ → Shown
off_mappings l x = bare (ranges l.ranges) x

abbrev pub shows : Lent → ℕ → Shown
shows l x = translate (off_mappings l x) (mappings l.table) x

-- k is what the granted request r leaves of l: what byte addresses show; a valid table, zeros behind it; the list as it
-- was; look-ups are answered
pub record Effect (s : Space) (r : Request) (l k : Lent) : Type 0 where
  pub maps : r.op ≡ 0 → (x : ℕ) → r.address ≤ x → x < stop r → shows k x ≡ Object r.object (r.offset + (x - r.address))
  pub unmaps : r.op ≡ 1 → (x : ℕ) → r.address ≤ x → x < stop r → shows k x ≡ off_mappings l x
  pub elsewhere : (x : ℕ) → (x < r.address) ⊎ (stop r ≤ x) → shows k x ≡ shows l x
  pub valid : TableRules s (mappings k.table)
  pub zeros : (drop (4 * k.table.count) k.table.words ≡ replicate (length l.table.words - 4 * k.table.count) 0)
      × (length k.table.words ≡ length l.table.words)
  pub list : k.ranges ≡ l.ranges
  pub answers : (x : ℕ) → lookup s k x ≡ answered (see_in s k x)

-- of requests without the sparse flag
abbrev pub Demand2 : Type 0
Demand2 = (s : Space) (l : Lent) (os : List ℕ) (q : Asking) (g : Grant) → Unflagged (asked q) → (bind s l os q).answer ≡ answered g
    → Effect s (asked q) l (lent_after l (bind s l os q))

abbrev pub equal : Mapping → Mapping → Bool
equal m n = all (eqb m.address n.address ∷ eqb m.size n.size ∷ eqb m.object n.object ∷ eqb m.offset n.offset ∷ [])

-- a rest of m: that end of it, its offset moved along, neither empty nor the whole; two leave a gap between them
abbrev pub lower_tests : Mapping → Mapping → List Bool
lower_tests m l = eqb l.address m.address ∷ eqb l.object m.object ∷ eqb l.offset m.offset ∷ ltb 0 l.size ∷ ltb l.size m.size ∷ []

abbrev pub upper_tests : Mapping → Mapping → List Bool
upper_tests m u = eqb (end u) (end m) ∷ eqb u.object m.object ∷ eqb u.offset (m.offset + (u.address - m.address))
    ∷ ltb 0 u.size ∷ ltb m.address u.address ∷ []

abbrev pub rest_tests : Mapping → Rests → List Bool
rest_tests m (Lower l) = lower_tests m l
rest_tests m (Upper u) = upper_tests m u
rest_tests m (Both l u) = ltb (end l) u.address ∷ (lower_tests m l ++ upper_tests m u)

-- the mapping m gives way to others
unfoldable pub replace : Mapping → List Mapping → List Mapping → Option (List Mapping)
replace m ns [] = None
replace m ns (x ∷ ms) = choose (equal x m) (Some (ns ++ ms)) (option_map (◌∷◌ x) (replace m ns ms))

-- m stands behind those that end at or before its address, and ends at or before the next
unfoldable pub insert : Mapping → List Mapping → Option (List Mapping)
insert m [] = Some (m ∷ [])
insert m (x ∷ ms) =
    choose (leb (end x) m.address) (option_map (◌∷◌ x) (insert m ms)) (choose (leb (end m) x.address) (Some (m ∷ x ∷ ms)) None)

-- an operation taken: not if the old mapping is not there, a rest is not that end of it, or the new range is occupied
abbrev pub apply : Operation → List Mapping → Option (List Mapping)
apply (Map m) ms = insert m ms
apply (Unmap keep m) ms = replace m [] ms
apply (Remap keep m rs) ms = choose (all (rest_tests m rs)) (replace m (rests_of rs) ms) None

unfoldable pub replay : List Operation → List Mapping → Option (List Mapping)
replay [] ms = Some ms
replay (o ∷ os) ms = option_and_then (replay os) (apply o ms)

-- g is the grant, os its operations, lent and written what the operation slice holds before the call and after it
pub record Replays (r : Request) (t u : Table) (os : List Operation) (lent written : List ℕ) (g : Grant) : Type 0 where
  pub replayed : replay os (mappings t) ≡ Some (mappings u)
  -- one for each mapping hit, in ascending address, and a map's own at the very end
  pub hit : (m : Mapping) → m ∈ flat_map old os ↔ (m ∈ mappings t × ShareByte m.address (end m) r.address (stop r))
  pub ascending : Ascends (flat_map old os)
  pub front : List Operation
  pub each_hit : length front ≡ length (flat_map old os)
  pub map_last : r.op ≡ 0
      → os ≡ front ++ Map (record { address = r.address; size = r.size; object = r.object; offset = r.offset }) ∷ []
  pub unmap_last : r.op ≡ 1 → os ≡ front
  pub number : g.operations ≡ length os
  -- 14 words each; behind the last operation words are as they were
  pub words : (written ≡ flat_map words_of_operation os ++ drop (14 * g.operations) lent) × (length written ≡ length lent)
  -- count afterwards = count - hit + lower rests + upper rests + (1 for a map)
  pub map_count : r.op ≡ 0 → g.count + length (flat_map old os) ≡ t.count + length (flat_map rests os) + 1
  pub unmap_count : r.op ≡ 1 → g.count + length (flat_map old os) ≡ t.count + length (flat_map rests os)
  -- a map adds at most 2, an unmap at most 1; at most count + 1 operations
  pub map_most : r.op ≡ 0 → g.count ≤ t.count + 2
  pub unmap_most : r.op ≡ 1 → g.count ≤ t.count + 1
  pub operations_most : g.operations ≤ t.count + 1

abbrev pub Replay : Type 0
Replay = (s : Space) (l : Lent) (os : List ℕ) (q : Asking) (g : Grant) → Unflagged (asked q) → (bind s l os q).answer ≡ answered g
    → Replays (asked q) l.table (lent_after l (bind s l os q)).table (operations (asked q) (mappings l.table)) os (bind s l os q).operations g

-- an operation's second word
abbrev pub keep_word : Operation → ℕ
keep_word o = get_or (words_of_operation o) 1 0

-- document 02: the keep word is 1 exactly if the request is a map, and the old mapping agrees with the one asked for in
-- object and displacement; else 0
abbrev pub Marked : Request → Operation → Type 0
Marked r o = (keep_word o ≤ 1) × ((keep_word o ≡ 1) ↔ ((m : Mapping) × m ∈ old o × (r.op ≡ 0)
    × Agree m (record { address = r.address; size = r.size; object = r.object; offset = r.offset })))

abbrev pub Keep : Type 0
Keep = (r : Request) (ms : List Mapping) → Each (Marked r) (operations r ms)

-- and what that means to a driver: a byte that the old mapping has inside the range shows after the grant what it
-- showed before exactly if the word is 1, so that page entries can stay exactly there
abbrev pub KeepShows : Type 0
KeepShows = (s : Space) (l : Lent) (os : List ℕ) (q : Asking) (g : Grant) → Unflagged (asked q) → (bind s l os q).answer ≡ answered g
    → Each (λ o. (m : Mapping) → m ∈ old o → (x : ℕ) → m.address ≤ x → x < end m → (asked q).address ≤ x → x < stop (asked q)
    → (keep_word o ≡ 1) ↔ (shown_reply (lookup s (lent_after l (bind s l os q)) x) ≡ shown_reply (lookup s l x)))
    (operations (asked q) (mappings l.table))

-- document 01: an operation is 14 words: kind, keep, the old mapping (a map's new one), the lower rest, the upper rest;
-- an absent rest is four zeros
abbrev pub laid : ℕ → ℕ → Mapping → List ℕ → List ℕ → List ℕ
laid kind keep m lower upper = kind ∷ keep ∷ m.address ∷ m.size ∷ m.object ∷ m.offset ∷ (lower ++ upper)

abbrev pub rest_laid : Mapping → List ℕ
rest_laid m = m.address ∷ m.size ∷ m.object ∷ m.offset ∷ []

abbrev pub Laid : Operation → List ℕ → Type 0
Laid (Map m) ws = ws ≡ laid 0 0 m (0 ∷ 0 ∷ 0 ∷ 0 ∷ []) (0 ∷ 0 ∷ 0 ∷ 0 ∷ [])
Laid (Unmap keep m) ws = ws ≡ laid 2 (choose keep 1 0) m (0 ∷ 0 ∷ 0 ∷ 0 ∷ []) (0 ∷ 0 ∷ 0 ∷ 0 ∷ [])
Laid (Remap keep m (Lower l)) ws = ws ≡ laid 1 (choose keep 1 0) m (rest_laid l) (0 ∷ 0 ∷ 0 ∷ 0 ∷ [])
Laid (Remap keep m (Upper u)) ws = ws ≡ laid 1 (choose keep 1 0) m (0 ∷ 0 ∷ 0 ∷ 0 ∷ []) (rest_laid u)
Laid (Remap keep m (Both l u)) ws = ws ≡ laid 1 (choose keep 1 0) m (rest_laid l) (rest_laid u)

abbrev pub OperationLayout : Type 0
OperationLayout = (o : Operation) → Laid o (words_of_operation o)

-- alike in all of an operation's words but keep
abbrev pub SameWords : List ℕ → List ℕ → Type 0
SameWords ws vs = Each (λ i. get_or ws i 0 ≡ get_or vs i 0) (0 ∷ 2 ∷ 3 ∷ 4 ∷ 5 ∷ 6 ∷ 7 ∷ 8 ∷ 9 ∷ 10 ∷ 11 ∷ 12 ∷ 13 ∷ [])

-- words spell o: they are its own, but that any other keep word than 1 reads as 0 (a map's is not read), and its rests
-- are there
pub record Spells (ws : List ℕ) (o : Operation) : Type 0 where
  pub words : SameWords ws (words_of_operation o)
  pub keep : (m : Mapping) → m ∈ old o → (get_or ws 1 0 ≡ 1) ↔ (get_or (words_of_operation o) 1 0 ≡ 1)
  pub there : Each (λ m. rest_laid m ≡ 0 ∷ 0 ∷ 0 ∷ 0 ∷ [] → ⊥) (rests o)

-- an operation is read from words exactly if they spell it; so a request's own operations are read back as they were
-- written
pub record OperationReading : Type 0 where
  pub exactly : (ws : List ℕ) (o : Operation) → (operation_in ws ≡ Some o) ↔ Spells ws o
  pub own : (r : Request) (ms : List Mapping) → Each (λ o. operation_in (words_of_operation o) ≡ Some o) (operations r ms)
  -- and no two answers of the code read alike: it answers the definition's own Option, which is read as it is
  pub pinned : Pins {A = Option Operation} (λ o. o)
