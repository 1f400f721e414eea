-- What each part is read from, and that it is read again.
use Rattle.std.proofs.Common.{◌≡◌, ℕ, true, cond, eqb, List, [], ◌∷◌, length, map, Option, Some, None, Ok, Err, refl, sym, ap, subst, ◌∙◌}
use Rattle.std.specs.Option.{option_map, option_and_then, ok_or}
use Rattle.std.specs.List.{list_all}
use Rattle.std.proofs.lemmas.Bool.{eqb-true, eq-eqb}
use Rattle.cbor_core.specs.declared.item.Item.{Item, out-Item}
use Rattle.cbor_core.specs.declared.item.Item.TheVariants as v
use Rattle.cbor_core.specs.declared.item.Pair.{Pair}
use Rattle.cbor_core.proofs.Lawful.{by_cases}
use Rattle.proof_cbor.specs.declared.fault.Part.{Part}
use Rattle.proof_cbor.specs.declared.fault.ValueFault.{ValueFault}
use Rattle.proof_cbor.specs.declared.fault.ValueFault.TheVariants as fault
use Rattle.proof_cbor.specs.declared.value.MapEntry.{MapEntry}
use Rattle.proof_cbor.specs.Refusals.{Five}
use Rattle.proof_cbor.specs.Values.{all_sized, pair_of}
use Rattle.cbor_core.specs.Internal.Results.{◌>>=◌}
use Rattle.proof_cbor.specs.Internal.Reading.{blob_level, text_level, whole_level, list_level, map_level, blob_kind, text_kind, whole_kind, entry_of, entry_kind, digest_length, each_is, ones_of, of_size, blob_of, blobs_of, texts_of, wholes_of, label_entries_of, five_items, five_parts}
use Rattle.cbor_core.proofs.Outcomes.{same_ok, ended, went_on}
use Rattle.proof_cbor.proofs.Each.{parts}

-- ---- results

-- a value that was there
pub some_of : {A : Type 0} (o : Option A) (d : ValueFault) (x : A) → ok_or o d ≡ Ok x → o ≡ Some x
some_of (Some y) d x e = ap (λ z. Some z) (same_ok y x e)
some_of None d x e = absurd cc

-- ---- kinds of items

-- an item that is taken for a byte string is that byte string
pub blob_back : (i : Item) (c : List ℕ) → blob_kind i ≡ Some c → i ≡ v.Blob c
blob_back = by_cases (λ (i : Item). (c : List ℕ) → blob_kind i ≡ Some c → i ≡ v.Blob c) record {
  whole = λ n c e. absurd (let x = sym (ap blob_level (v.outs-Whole n)) ∙ e in cc);
  blob = λ b c e. let x = sym (ap blob_level (v.outs-Blob b)) ∙ e in let y : b ≡ c = cc in ap v.Blob y;
  text = λ b c e. absurd (let x = sym (ap blob_level (v.outs-Text b)) ∙ e in cc);
  items = λ is h c e. absurd (let x = sym (ap blob_level (v.outs-List is)) ∙ e in cc);
  pairs = λ ps h c e. absurd (let x = sym (ap blob_level (v.outs-Map ps)) ∙ e in cc);
}

-- an item that is taken for a text is that text
pub text_back : (i : Item) (c : List ℕ) → text_kind i ≡ Some c → i ≡ v.Text c
text_back = by_cases (λ (i : Item). (c : List ℕ) → text_kind i ≡ Some c → i ≡ v.Text c) record {
  whole = λ n c e. absurd (let x = sym (ap text_level (v.outs-Whole n)) ∙ e in cc);
  blob = λ b c e. absurd (let x = sym (ap text_level (v.outs-Blob b)) ∙ e in cc);
  text = λ b c e. let x = sym (ap text_level (v.outs-Text b)) ∙ e in let y : b ≡ c = cc in ap v.Text y;
  items = λ is h c e. absurd (let x = sym (ap text_level (v.outs-List is)) ∙ e in cc);
  pairs = λ ps h c e. absurd (let x = sym (ap text_level (v.outs-Map ps)) ∙ e in cc);
}

-- an item that is taken for a whole number is that number
pub whole_back : (i : Item) (c : ℕ) → whole_kind i ≡ Some c → i ≡ v.Whole c
whole_back = by_cases (λ (i : Item). (c : ℕ) → whole_kind i ≡ Some c → i ≡ v.Whole c) record {
  whole = λ n c e. let x = sym (ap whole_level (v.outs-Whole n)) ∙ e in let y : n ≡ c = cc in ap v.Whole y;
  blob = λ b c e. absurd (let x = sym (ap whole_level (v.outs-Blob b)) ∙ e in cc);
  text = λ b c e. absurd (let x = sym (ap whole_level (v.outs-Text b)) ∙ e in cc);
  items = λ is h c e. absurd (let x = sym (ap whole_level (v.outs-List is)) ∙ e in cc);
  pairs = λ ps h c e. absurd (let x = sym (ap whole_level (v.outs-Map ps)) ∙ e in cc);
}

-- an item that is taken for a list is the list of those items
pub list_back : (i : Item) (c : List Item) → list_level (out-Item i) ≡ Some c → i ≡ v.List c
list_back = by_cases (λ (i : Item). (c : List Item) → list_level (out-Item i) ≡ Some c → i ≡ v.List c) record {
  whole = λ n c e. absurd (let x = sym (ap list_level (v.outs-Whole n)) ∙ e in cc);
  blob = λ b c e. absurd (let x = sym (ap list_level (v.outs-Blob b)) ∙ e in cc);
  text = λ b c e. absurd (let x = sym (ap list_level (v.outs-Text b)) ∙ e in cc);
  items = λ is h c e. let x = sym (ap list_level (v.outs-List is)) ∙ e in let y : is ≡ c = cc in ap v.List y;
  pairs = λ ps h c e. absurd (let x = sym (ap list_level (v.outs-Map ps)) ∙ e in cc);
}

-- an item that is taken for a map is the map of those pairs
pub map_back : (i : Item) (c : List (Pair Item)) → map_level (out-Item i) ≡ Some c → i ≡ v.Map c
map_back = by_cases (λ (i : Item). (c : List (Pair Item)) → map_level (out-Item i) ≡ Some c → i ≡ v.Map c) record {
  whole = λ n c e. absurd (let x = sym (ap map_level (v.outs-Whole n)) ∙ e in cc);
  blob = λ b c e. absurd (let x = sym (ap map_level (v.outs-Blob b)) ∙ e in cc);
  text = λ b c e. absurd (let x = sym (ap map_level (v.outs-Text b)) ∙ e in cc);
  items = λ is h c e. absurd (let x = sym (ap map_level (v.outs-List is)) ∙ e in cc);
  pairs = λ ps h c e. let x = sym (ap map_level (v.outs-Map ps)) ∙ e in let y : ps ≡ c = cc in ap v.Map y;
}

entry_some : (p : Pair Item) (o : Option (List ℕ)) (e : MapEntry) → option_map (entry_of p.key) o ≡ Some e → (o ≡ Some e.digest) × (p.key ≡ e.number)
entry_some p None e h = absurd cc
entry_some p (Some d) e h =
    let same : entry_of p.key d ≡ e = cc in
    (ap (λ (x : MapEntry). Some x.digest) same, ap (λ (x : MapEntry). x.number) same)

abbrev pair_at : ℕ → Item → Pair Item
pair_at key value = record { key = key; value = value }

-- a pair that is taken for an entry of a label map is the pair of that entry
pub entry_back : (p : Pair Item) (e : MapEntry) → entry_kind p ≡ Some e → p ≡ pair_of e
entry_back p e h =
    let s = entry_some p (blob_kind p.value) e h in
    let value : p.value ≡ v.Blob e.digest = blob_back p.value e.digest s.0 in
    let first : p ≡ pair_at e.number p.value = ap (λ (k : ℕ). pair_at k p.value) s.1 in
    first ∙ ap (λ (i : Item). pair_at e.number i) value

-- a byte string is taken for its own bytes
pub blob_forth : (c : List ℕ) → blob_kind (v.Blob c) ≡ Some c
blob_forth c = ap blob_level (v.outs-Blob c)

-- a text is taken for its own bytes
pub text_forth : (c : List ℕ) → text_kind (v.Text c) ≡ Some c
text_forth c = ap text_level (v.outs-Text c)

-- a whole number is taken for itself
pub whole_forth : (n : ℕ) → whole_kind (v.Whole n) ≡ Some n
whole_forth n = ap whole_level (v.outs-Whole n)

-- the pair of an entry of a label map is taken for that entry
pub entry_forth : (e : MapEntry) → entry_kind (pair_of e) ≡ Some e
entry_forth e = ap (option_map (entry_of e.number)) (blob_forth e.digest)

-- ---- lists of one kind

module _ {X Y : Type 0} (kind : X → Option Y) (con : Y → X) where
  pub each_back : ((x : X) (y : Y) → kind x ≡ Some y → x ≡ con y) → (xs : List X) (ys : List Y) → each_is kind xs ≡ Some ys → xs ≡ map con ys
  unfolding each_is
  each_back back [] ys e =
      let none : [] ≡ ys = cc in
      subst (λ (z : List Y). [] ≡ map con z) none refl
  each_back back (x ∷ xs) ys e =
      let p = parts (kind x) (each_is kind xs) ys e in
      let first : x ≡ con p.0 = back x p.0 p.2 in
      let rest : xs ≡ map con p.1 = each_back back xs p.1 p.3 in
      let all : x ∷ xs ≡ con p.0 ∷ map con p.1 = cc (first, rest) in
      subst (λ (z : List Y). x ∷ xs ≡ map con z) p.4 all

  pub each_forth : ((y : Y) → kind (con y) ≡ Some y) → (ys : List Y) → each_is kind (map con ys) ≡ Some ys
  unfolding each_is
  each_forth forth [] = refl
  each_forth forth (y ∷ ys) = rw (forth y, each_forth forth ys) refl

  module _ (size : Y → ℕ) (at : Part) (n : ℕ) where
    ones_back : ((x : X) (y : Y) → kind x ≡ Some y → x ≡ con y) → (xs : List X) (ys : List Y) → ones_of kind size at n xs ≡ Ok ys → (xs ≡ map con ys) × (list_all (λ y. eqb (size y) n) ys ≡ true)
    ones_back back xs ys e =
        let a = went_on (ok_or (each_is kind xs) (fault.Shape at)) (of_size size at n) ys e in
        let p = ended (list_all (λ y. eqb (size y) n) a.0) (fault.Length at) a.0 ys a.2 in
        let all = each_back back xs a.0 (some_of (each_is kind xs) (fault.Shape at) a.0 a.1) in
        (all ∙ ap (map con) p.1, subst (λ (z : List Y). list_all (λ y. eqb (size y) n) z ≡ true) p.1 p.0)

    ones_forth : ((y : Y) → kind (con y) ≡ Some y) → (ys : List Y) → list_all (λ y. eqb (size y) n) ys ≡ true → ones_of kind size at n (map con ys) ≡ Ok ys
    ones_forth forth ys all = rw (each_forth forth ys, all) refl

-- ---- parts

by_size : (at : Part) (n : ℕ) (o : Option (List ℕ)) (c : List ℕ) → (ok_or o (fault.Shape at) >>= λ (y : List ℕ). cond (eqb (length y) n) (Ok y) (Err (fault.Length at))) ≡ Ok c → (o ≡ Some c) × (length c ≡ n)
by_size at n None c e = absurd cc
by_size at n (Some y) c e =
    let p = ended (eqb (length y) n) (fault.Length at) y c e in
    (ap (λ (z : List ℕ). Some z) p.1, subst (λ (z : List ℕ). length z ≡ n) p.1 (eqb-true (length y) n p.0))

-- a part that is read as a byte string of a size is that byte string, and has the size
pub blob_found : (at : Part) (n : ℕ) (item : Item) (c : List ℕ) → blob_of at n item ≡ Ok c → (item ≡ v.Blob c) × (length c ≡ n)
blob_found at n item c e =
    let p = by_size at n (blob_kind item) c e in
    (blob_back item c p.0, p.1)

-- a byte string of the size is read as its bytes
pub blob_again : (at : Part) (n : ℕ) (c : List ℕ) → length c ≡ n → blob_of at n (v.Blob c) ≡ Ok c
blob_again at n c e = rw (blob_forth c, eq-eqb (length c) n e) refl

-- a part that is read as byte strings of a size is the list of them, and each has the size
pub blobs_found : (at : Part) (n : ℕ) (item : Item) (cs : List (List ℕ)) → blobs_of at n item ≡ Ok cs → (item ≡ v.List (map v.Blob cs)) × (all_sized n cs ≡ true)
blobs_found at n item cs e =
    let a = went_on (ok_or (list_level (out-Item item)) (fault.Shape at)) (ones_of blob_kind length at n) cs e in
    let p = ones_back blob_kind v.Blob length at n blob_back a.0 cs a.2 in
    (list_back item a.0 (some_of (list_level (out-Item item)) (fault.Shape at) a.0 a.1) ∙ ap v.List p.0, p.1)

-- a list of byte strings that each have the size is read as those
pub blobs_again : (at : Part) (n : ℕ) (cs : List (List ℕ)) → all_sized n cs ≡ true → blobs_of at n (v.List (map v.Blob cs)) ≡ Ok cs
blobs_again at n cs all = rw (v.outs-List (map v.Blob cs)) (ones_forth blob_kind v.Blob length at n blob_forth cs all)

-- a part that is read as texts is the list of them
pub texts_found : (at : Part) (item : Item) (ts : List (List ℕ)) → texts_of at item ≡ Ok ts → item ≡ v.List (map v.Text ts)
texts_found at item ts e =
    let a = went_on (ok_or (list_level (out-Item item)) (fault.Shape at)) (λ (items : List Item). ok_or (each_is text_kind items) (fault.Shape at)) ts e in
    let all = each_back text_kind v.Text text_back a.0 ts (some_of (each_is text_kind a.0) (fault.Shape at) ts a.2) in
    list_back item a.0 (some_of (list_level (out-Item item)) (fault.Shape at) a.0 a.1) ∙ ap v.List all

-- a list of texts is read as those
pub texts_again : (at : Part) (ts : List (List ℕ)) → texts_of at (v.List (map v.Text ts)) ≡ Ok ts
texts_again at ts = rw (v.outs-List (map v.Text ts), each_forth text_kind v.Text text_forth ts) refl

-- a part that is read as whole numbers is the list of them
pub wholes_found : (at : Part) (item : Item) (ns : List ℕ) → wholes_of at item ≡ Ok ns → item ≡ v.List (map v.Whole ns)
wholes_found at item ns e =
    let a = went_on (ok_or (list_level (out-Item item)) (fault.Shape at)) (λ (items : List Item). ok_or (each_is whole_kind items) (fault.Shape at)) ns e in
    let all = each_back whole_kind v.Whole whole_back a.0 ns (some_of (each_is whole_kind a.0) (fault.Shape at) ns a.2) in
    list_back item a.0 (some_of (list_level (out-Item item)) (fault.Shape at) a.0 a.1) ∙ ap v.List all

-- a list of whole numbers is read as those
pub wholes_again : (at : Part) (ns : List ℕ) → wholes_of at (v.List (map v.Whole ns)) ≡ Ok ns
wholes_again at ns = rw (v.outs-List (map v.Whole ns), each_forth whole_kind v.Whole whole_forth ns) refl

-- a part that is read as a label map is the map of its entries, and each digest has the size
pub labels_found : (at : Part) (n : ℕ) (item : Item) (es : List MapEntry) → label_entries_of at n item ≡ Ok es → (item ≡ v.Map (map pair_of es)) × (list_all (λ (e : MapEntry). eqb (length e.digest) n) es ≡ true)
labels_found at n item es e =
    let a = went_on (ok_or (map_level (out-Item item)) (fault.Shape at)) (ones_of entry_kind digest_length at n) es e in
    let p = ones_back entry_kind pair_of digest_length at n entry_back a.0 es a.2 in
    (map_back item a.0 (some_of (map_level (out-Item item)) (fault.Shape at) a.0 a.1) ∙ ap v.Map p.0, p.1)

-- a map of entries whose digests each have the size is read as those entries
pub labels_again : (at : Part) (n : ℕ) (es : List MapEntry) → list_all (λ (e : MapEntry). eqb (length e.digest) n) es ≡ true → label_entries_of at n (v.Map (map pair_of es)) ≡ Ok es
labels_again at n es all = rw (v.outs-Map (map pair_of es)) (ones_forth entry_kind pair_of digest_length at n entry_forth es all)

-- ---- the five parts

five_back : (xs : List Item) (f : Five) → five_items xs ≡ Some f → xs ≡ f.0 ∷ f.1 ∷ f.2 ∷ f.3 ∷ f.4 ∷ []
five_back [] f e = absurd cc
five_back (a ∷ []) f e = absurd cc
five_back (a ∷ b ∷ []) f e = absurd cc
five_back (a ∷ b ∷ c ∷ []) f e = absurd cc
five_back (a ∷ b ∷ c ∷ d ∷ []) f e = absurd cc
five_back (a ∷ b ∷ c ∷ d ∷ g ∷ []) f e =
    let same : (a, b, c, d, g) ≡ f = cc in
    subst (λ (z : Five). a ∷ b ∷ c ∷ d ∷ g ∷ [] ≡ z.0 ∷ z.1 ∷ z.2 ∷ z.3 ∷ z.4 ∷ []) same refl
five_back (a ∷ b ∷ c ∷ d ∷ g ∷ h ∷ xs) f e = absurd cc

of_list : (o : Option (List Item)) (f : Five) → option_and_then five_items o ≡ Some f → (xs : List Item) × (o ≡ Some xs) × (five_items xs ≡ Some f)
of_list None f e = absurd cc
of_list (Some xs) f e = (xs, refl, e)

-- an item that is read as five parts is the list of those
pub parts_found : (item : Item) (f : Five) → five_parts item ≡ Ok f → item ≡ v.List (f.0 ∷ f.1 ∷ f.2 ∷ f.3 ∷ f.4 ∷ [])
parts_found item f e =
    let p = of_list (list_level (out-Item item)) f (some_of (option_and_then five_items (list_level (out-Item item))) _ f e) in
    list_back item p.0 p.1 ∙ ap v.List (five_back p.0 f p.2)

-- a list of five items is read as those five parts
pub parts_again : (a b c d e : Item) → five_parts (v.List (a ∷ b ∷ c ∷ d ∷ e ∷ [])) ≡ Ok (a, b, c, d, e)
parts_again a b c d e = rw (v.outs-List (a ∷ b ∷ c ∷ d ∷ e ∷ [])) refl

-- an item that is a list of five is the list of five others that equal them one by one
pub five_joined : (item a b c d e f g h i j : Item) → item ≡ v.List (a ∷ b ∷ c ∷ d ∷ e ∷ []) → a ≡ f → b ≡ g → c ≡ h → d ≡ i → e ≡ j → item ≡ v.List (f ∷ g ∷ h ∷ i ∷ j ∷ [])
five_joined item a b c d e f g h i j whole ea eb ec ed ee =
    let same : a ∷ b ∷ c ∷ d ∷ e ∷ [] ≡ f ∷ g ∷ h ∷ i ∷ j ∷ [] = cc in
    whole ∙ ap v.List same
