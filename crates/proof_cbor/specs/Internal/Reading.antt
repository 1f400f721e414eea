-- What a text is read as, or the first refusal in the order of `ValueFault`.
use Rattle.std.specs.Prelude.{ℕ, Bool, true, false, List, [], ◌∷◌, ◌++◌, length, take, drop, Option, Some, None, Result, Ok, Err, ◌==◌, if◌then◌else◌}
use Rattle.std.specs.List.{list_all}
use Rattle.std.specs.Option.{option_map, option_and_then, ok_or}
use Rattle.std.specs.Str.{bytes_eq}
use Rattle.base64.specs.Engines.{url_safe_no_pad}
use Rattle.base64.specs.GeneralPurpose.{decode_of}
use Rattle.base64.specs.declared.decode.DecodeError.{DecodeError}
use Rattle.cbor_core.specs.declared.fault.CborFault.{CborFault}
use Rattle.cbor_core.specs.declared.item.Item.{Item, out-Item}
use Rattle.cbor_core.specs.declared.item.Item.TheOpen.{Item-F}
use Rattle.cbor_core.specs.declared.item.Pair.{Pair}
use Rattle.cbor_core.specs.Internal.Reading.{reading}
use Rattle.cbor_core.specs.Internal.Results.{◌>>=◌}
use Rattle.base_types.specs.Order.{rise}
use Rattle.digest_mac.specs.declared.hash.Hash.{Hash}
use Rattle.digest_mac.specs.declared.hash.Hash.TheVariants.{Sha256, Sha384}
use Rattle.digest_mac.specs.Digests.{digest_size}
use Rattle.proof_cbor.specs.declared.headers.Kind.{Kind}
use Rattle.proof_cbor.specs.declared.headers.Kind.TheVariants.{Base, Derived}
use Rattle.proof_cbor.specs.declared.fault.Part.{Part}
use Rattle.proof_cbor.specs.declared.fault.Part.TheVariants as part
use Rattle.proof_cbor.specs.declared.fault.ValueFault.{ValueFault}
use Rattle.proof_cbor.specs.declared.fault.ValueFault.TheVariants as fault
use Rattle.proof_cbor.specs.declared.value.BaseValue.{BaseValue}
use Rattle.proof_cbor.specs.declared.value.DerivedValue.{DerivedValue}
use Rattle.proof_cbor.specs.declared.value.MapEntry.{MapEntry}
use Rattle.proof_cbor.specs.Values.{header}
use Rattle.proof_cbor.specs.Refusals.{Five}

-- whether memory ran out
abbrev pub is_memory : ValueFault → Bool
is_memory fault.Memory = true
is_memory fault.NotMultibase = false
is_memory fault.Header = false
is_memory (fault.Cbor e) = false
is_memory (fault.Shape at) = false
is_memory (fault.Length at) = false
is_memory fault.Indexes = false

-- ---- an item as what it is, if it is of that kind

abbrev pub blob_level : Item-F Item → Option (List ℕ)
blob_level (Item-F.Blob content) = Some content
blob_level other = None

abbrev pub text_level : Item-F Item → Option (List ℕ)
text_level (Item-F.Text content) = Some content
text_level other = None

abbrev pub whole_level : Item-F Item → Option ℕ
whole_level (Item-F.Whole n) = Some n
whole_level other = None

abbrev pub list_level : Item-F Item → Option (List Item)
list_level (Item-F.List items) = Some items
list_level other = None

abbrev pub map_level : Item-F Item → Option (List (Pair Item))
map_level (Item-F.Map pairs) = Some pairs
map_level other = None

abbrev pub blob_kind : Item → Option (List ℕ)
blob_kind item = blob_level (out-Item item)

abbrev pub text_kind : Item → Option (List ℕ)
text_kind item = text_level (out-Item item)

abbrev pub whole_kind : Item → Option ℕ
whole_kind item = whole_level (out-Item item)

-- each of a list, if all are of the kind
unfoldable pub each_is : {X Y : Type 0} → (X → Option Y) → List X → Option (List Y)
each_is kind [] = Some []
each_is kind (x ∷ xs) = option_and_then (λ y. option_map (λ ys. y ∷ ys) (each_is kind xs)) (kind x)

-- an entry of a label map
abbrev pub entry_of : ℕ → List ℕ → MapEntry
entry_of number digest = record { number = number; digest = digest }

-- a pair as an entry of a label map, if its value is a byte string
abbrev pub entry_kind : Pair Item → Option MapEntry
entry_kind p = option_map (entry_of p.key) (blob_level (out-Item p.value))

-- the number of bytes of an entry's digest
abbrev pub digest_length : MapEntry → ℕ
digest_length e = length e.digest

-- ---- one part

-- what is of the kind and of this size
abbrev pub one_of : {X Y : Type 0} → (X → Option Y) → (Y → ℕ) → Part → ℕ → X → Result Y ValueFault
one_of kind size at n x = do
  y ← ok_or (kind x) (fault.Shape at)
  if size y == n then Ok y else Err (fault.Length at)

-- such ones behind those that are done, the first other one refused
unfoldable pub ones_from : {X Y : Type 0} → (X → Option Y) → (Y → ℕ) → Part → ℕ → List Y → List X
    → Result (List Y) ValueFault
ones_from kind size at n done [] = Ok done
ones_from kind size at n done (x ∷ xs) = do
  y ← one_of kind size at n x
  ones_from kind size at n (done ++ y ∷ []) xs

-- those of one kind, where each is of this size
abbrev pub of_size : {Y : Type 0} → (Y → ℕ) → Part → ℕ → List Y → Result (List Y) ValueFault
of_size size at n ys = if list_all (λ y. size y == n) ys then Ok ys else Err (fault.Length at)

-- each is of the kind, and then each is of this size
abbrev pub ones_of : {X Y : Type 0} → (X → Option Y) → (Y → ℕ) → Part → ℕ → List X
    → Result (List Y) ValueFault
ones_of kind size at n xs = do
  ys ← ok_or (each_is kind xs) (fault.Shape at)
  of_size size at n ys

-- a byte string of so many bytes
abbrev pub blob_of : Part → ℕ → Item → Result (List ℕ) ValueFault
blob_of at n item = one_of blob_kind length at n item

-- a list of byte strings of so many bytes each
abbrev pub blobs_of : Part → ℕ → Item → Result (List (List ℕ)) ValueFault
blobs_of at n item = do
  items ← ok_or (list_level (out-Item item)) (fault.Shape at)
  ones_of blob_kind length at n items

-- a list of texts
abbrev pub texts_of : Part → Item → Result (List (List ℕ)) ValueFault
texts_of at item = do
  items ← ok_or (list_level (out-Item item)) (fault.Shape at)
  ok_or (each_is text_kind items) (fault.Shape at)

-- a list of whole numbers
abbrev pub wholes_of : Part → Item → Result (List ℕ) ValueFault
wholes_of at item = do
  items ← ok_or (list_level (out-Item item)) (fault.Shape at)
  ok_or (each_is whole_kind items) (fault.Shape at)

-- a map to byte strings of so many bytes each
abbrev pub label_entries_of : Part → ℕ → Item → Result (List MapEntry) ValueFault
label_entries_of at n item = do
  pairs ← ok_or (map_level (out-Item item)) (fault.Shape at)
  ones_of entry_kind digest_length at n pairs

-- ---- the whole

-- the five parts of a list
abbrev pub five_items : List Item → Option Five
five_items (a ∷ b ∷ c ∷ d ∷ e ∷ []) = Some (a, b, c, d, e)
five_items other = None

abbrev pub five_parts : Item → Result Five ValueFault
five_parts item =
    ok_or (option_and_then five_items (list_level (out-Item item))) (fault.Shape part.Array)

unfoldable pub base_of : Hash → Item → Result BaseValue ValueFault
base_of hash item = do
  five ← five_parts item
  signature ← blob_of part.BaseSignature 64 five.0
  key ← blob_of part.PublicKey 35 five.1
  secret ← blob_of part.HmacKey 32 five.2
  signatures ← blobs_of part.Signatures 64 five.3
  pointers ← texts_of part.Pointers five.4
  Ok (record {
    hash = hash;
    signature = signature;
    key = key;
    secret = secret;
    signatures = signatures;
    pointers = pointers;
  })

unfoldable pub derived_of : Hash → Item → Result DerivedValue ValueFault
derived_of hash item = do
  five ← five_parts item
  signature ← blob_of part.BaseSignature 64 five.0
  key ← blob_of part.PublicKey 35 five.1
  signatures ← blobs_of part.Signatures 64 five.2
  labels ← label_entries_of part.LabelMap (digest_size hash) five.3
  indexes ← wholes_of part.Indexes five.4
  if rise indexes then Ok (record {
    hash = hash;
    signature = signature;
    key = key;
    signatures = signatures;
    labels = labels;
    indexes = indexes;
  }) else Err fault.Indexes

-- bytes that base64url gave, if it did
abbrev pub base64_result : Result (List ℕ) DecodeError → Result (List ℕ) ValueFault
base64_result (Ok bytes) = Ok bytes
base64_result (Err e) = Err fault.NotMultibase

-- the bytes of a text that begins with `u`
abbrev pub multibase_bytes : List ℕ → Result (List ℕ) ValueFault
multibase_bytes [] = Err fault.NotMultibase
multibase_bytes (c ∷ text) =
    if c == 117 then base64_result (decode_of url_safe_no_pad text) else Err fault.NotMultibase

-- the hash by which these bytes are the header of this kind
abbrev pub hash_named : Kind → List ℕ → Option Hash
hash_named kind front =
    if bytes_eq front (header kind Sha256) then Some Sha256
    else (if bytes_eq front (header kind Sha384) then Some Sha384 else None)

-- the hash that the three bytes of a header name, and what follows them
abbrev pub behind : Kind → List ℕ → Result (Hash × List ℕ) ValueFault
behind kind bytes = do
  hash ← ok_or (hash_named kind (take 3 bytes)) fault.Header
  Ok (hash, drop 3 bytes)

abbrev pub item_of : Result Item CborFault → Result Item ValueFault
item_of (Ok item) = Ok item
item_of (Err e) = Err (fault.Cbor e)

-- the hash that a header names, and the item that follows it
unfoldable pub item_behind : Kind → List ℕ → Result (Hash × Item) ValueFault
item_behind kind bytes = do
  found ← behind kind bytes
  item ← item_of (reading found.1)
  Ok (found.0, item)

unfoldable pub reading_base : List ℕ → Result BaseValue ValueFault
reading_base text = do
  bytes ← multibase_bytes text
  found ← item_behind Base bytes
  base_of found.0 found.1

unfoldable pub reading_derived : List ℕ → Result DerivedValue ValueFault
reading_derived text = do
  bytes ← multibase_bytes text
  found ← item_behind Derived bytes
  derived_of found.0 found.1
