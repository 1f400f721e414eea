-- Key tables.
use Rattle.std.proofs.Common.{◌≡◌, ◌<◌, ◌≤◌, ◌+◌, ℕ, zero, suc, List, [], ◌∷◌, ◌++◌, length, get_or, take, Some, None, refl, sym, ap, ◌∙◌, subst, arith, add-one}
use Rattle.std.specs.List.{AllZip}
use Rattle.std.proofs.Math.Seq.{take-suc}
use Rattle.hex.specs.Hex.{encode_lower}
use Rattle.json_tree.specs.declared.tree.Tree.{Tree}
use Rattle.json_tree.specs.declared.tree.Tree.TheVariants as v
use Rattle.json_tree.specs.declared.tree.Member.{Member}
use Rattle.json_tree.specs.Places.{members_of, text_of}
use Rattle.json_tree.proofs.TreeLemmas.{members_of-Object, members_of-Some, text_of-Some, text_of-Text}
use Rattle.key_device.specs.declared.table.KeyEntry.{KeyEntry}
use Rattle.ld_rdf.specs.declared.fault.FlatFault.{FlatFault}
use Rattle.ld_rdf.specs.declared.fault.FlatFault.TheVariants.{NotBuilt}
use Rattle.vc_session.specs.Requests.{IsKeyEntry, IsKeyTable}
use Rattle.vc_session.specs.HexDigits.{AreDigits}

-- ---- an entry

-- a member with the digits of a key is that entry of the table
pub entry_from : (m : Member Tree) (e : KeyEntry) (digits : List ℕ) → text_of m.value ≡ Some digits → AreDigits 35 digits e.key.bytes → m.key ≡ e.method → IsKeyEntry m e
entry_from m e digits is d named = record { method = named; digits = text_of-Some m.value digits is ∙ ap v.Text d.are; long = d.long; bytes = d.each_a_byte }

entry_text : (m : Member Tree) (e : KeyEntry) → IsKeyEntry m e → text_of m.value ≡ Some (encode_lower e.key.bytes)
entry_text m e i = ap text_of i.digits ∙ text_of-Text (encode_lower e.key.bytes)

-- a member without a text is no entry
pub no_text : (m : Member Tree) → text_of m.value ≡ None → (e : KeyEntry) → IsKeyEntry m e → ⊥
no_text m none = λ e i. let there = entry_text m e i in absurd (cc)

-- a member without the digits of a key is no entry
pub no_key : (m : Member Tree) (digits : List ℕ) → text_of m.value ≡ Some digits → ((bytes : List ℕ) → AreDigits 35 digits bytes → ⊥) → (e : KeyEntry) → IsKeyEntry m e → ⊥
no_key m digits is never = λ e i.
    let there = entry_text m e i in
    let same : digits ≡ encode_lower e.key.bytes = cc in
    never e.key.bytes record { are = same; long = i.long; each_a_byte = i.bytes }

-- ---- a table

-- a pairing with one pair more
pub AllZip-more : {A B : Type 0} (R : A → B → Type 0) (xs : List A) (ys : List B) (x : A) (y : B) → AllZip R xs ys → R x y → AllZip R (xs ++ x ∷ []) (ys ++ y ∷ [])
AllZip-more R [] [] x y h r = (r, tt)
AllZip-more R [] (b ∷ ys) x y h r = absurd h
AllZip-more R (a ∷ xs) [] x y h r = absurd h
AllZip-more R (a ∷ xs) (b ∷ ys) x y h r = (h.0, AllZip-more R xs ys x y h.1 r)

zip_at : {A B : Type 0} (R : A → B → Type 0) (xs : List A) (ys : List B) (i : ℕ) (d : A) → AllZip R xs ys → i < length xs → (y : B) × R (get_or xs i d) y
zip_at R [] ys i d h l = absurd (omega arith)
zip_at R (a ∷ xs) [] i d h l = absurd h
zip_at R (a ∷ xs) (b ∷ ys) zero d h l = (b, h.0)
zip_at R (a ∷ xs) (b ∷ ys) (suc i) d h l = zip_at R xs ys i d h.1 (omega arith)

-- one more entry was read
pub table_more : (ms : List (Member Tree)) (table : List KeyEntry) (i : ℕ) (m : Member Tree) (e : KeyEntry) → AllZip IsKeyEntry (take i ms) table → i < length ms → m ≡ get_or ms i m → IsKeyEntry m e → AllZip IsKeyEntry (take (i + 1) ms) (table ++ e ∷ [])
table_more ms table i m e h l is entry =
    let longer : take (i + 1) ms ≡ take i ms ++ m ∷ [] = rw add-one (take-suc ms i m l ∙ ap (λ (n : Member Tree). take i ms ++ n ∷ []) (sym is)) in
    subst (λ (l : List (Member Tree)). AllZip IsKeyEntry l (table ++ e ∷ [])) (sym longer) (AllZip-more IsKeyEntry (take i ms) table m e h entry)

-- members that are entries are the table
pub table_from : (keys : Tree) (ms : List (Member Tree)) (table : List KeyEntry) → members_of keys ≡ Some ms → AllZip IsKeyEntry ms table → IsKeyTable keys table
table_from keys ms table is each = record { members = ms; is = members_of-Some keys ms is; each = each }

-- what is no object is no table
pub no_object : (keys : Tree) → members_of keys ≡ None → (table : List KeyEntry) → IsKeyTable keys table → ⊥
no_object keys none = λ table t. let there = ap members_of t.is ∙ members_of-Object t.members in absurd (cc)

-- members of which one is no entry are no table
pub no_entry : (keys : Tree) (ms : List (Member Tree)) (i : ℕ) (m : Member Tree) → members_of keys ≡ Some ms → i < length ms → m ≡ get_or ms i m → ((e : KeyEntry) → IsKeyEntry m e → ⊥) → (table : List KeyEntry) → IsKeyTable keys table → ⊥
no_entry keys ms i m is l at never = λ table t.
    let there = ap members_of t.is ∙ members_of-Object t.members in
    let same : t.members ≡ ms = cc in
    let within : i < length t.members = subst (λ (l : List (Member Tree)). i < length l) (sym same) l in
    let found = zip_at IsKeyEntry t.members table i m t.each within in
    let named : get_or t.members i m ≡ m = ap (λ (l : List (Member Tree)). get_or l i m) same ∙ sym at in
    never found.0 (subst (λ (n : Member Tree). IsKeyEntry n found.0) named found.1)

-- the same where the entry was refused
pub no_entry_of : (keys : Tree) (ms : List (Member Tree)) (i : ℕ) (m : Member Tree) (fault : FlatFault) → members_of keys ≡ Some ms → i < length ms → m ≡ get_or ms i m → (fault ≡ NotBuilt → (e : KeyEntry) → IsKeyEntry m e → ⊥) → fault ≡ NotBuilt → (table : List KeyEntry) → IsKeyTable keys table → ⊥
no_entry_of keys ms i m fault is l at never e = no_entry keys ms i m is l at (never e)

take_whole : {X : Type 0} (xs : List X) (i : ℕ) → (i < length xs → ⊥) → take i xs ≡ xs
take_whole [] zero h = refl
take_whole [] (suc i) h = refl
take_whole (x ∷ xs) zero h = absurd (h (omega arith))
take_whole {X} (x ∷ xs) (suc i) h = ap (λ (ys : List X). x ∷ ys) (take_whole xs i (λ l. h (omega (arith, l))))

-- all members were read
pub table_end : (keys : Tree) (ms : List (Member Tree)) (made table : List KeyEntry) (i : ℕ) → members_of keys ≡ Some ms → AllZip IsKeyEntry (take i ms) made → length ms ≤ i → table ≡ made → IsKeyTable keys table
table_end keys ms made table i is h le same =
    let all : AllZip IsKeyEntry ms made = subst (λ (l : List (Member Tree)). AllZip IsKeyEntry l made) (take_whole ms i (λ l. absurd (omega (arith, l, le)))) h in
    table_from keys ms table is (subst (λ (t : List KeyEntry). AllZip IsKeyEntry ms t) (sym same) all)

pub ruleset entries = (entry_from, no_text, no_key)

pub ruleset turns = (table_more, table_from, no_object, no_entry_of)
