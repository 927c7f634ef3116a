-- Numbers as bytes and back, at every width; parts of bytes, and pieces of one width put one after another and cut again.
-- The idea: a number's bytes end in its remainder by 256, so lists of bytes are gone through from their last byte.
-- Assumes nothing.
use Prim.Native.Nat.{ℕ, zero, suc, ◌+◌, ◌*◌, ◌/◌, ◌%◌, ◌^◌, ◌≤◌, ◌<◌}
use native.Mathlib.Nat.{pow-suc, div-lt_iff_lt-mul, div-add-mod', mod-lt, mul-suc, mul-zero, le_of_eq}
use native.Mathlib.Numerals.{add-one}
use native.Mathlib.Omega.{arith}
use mathlib.Core.Path.{◌≡◌, refl, sym, ◌∙◌, ap}
use mathlib.Core.Logic.{⊎_elim}
use mathlib.Core.List.Memᴰ
use mathlib.Core.List.{
  List,
  [],
  ◌∷◌,
  ◌++◌,
  append_assoc,
  append-nil,
  Memᴰ,
}
use lib.ListN.{length, take, drop, get_or, length-append, length-drop, take-append-drop, drop_of_length-le}
use lib.Seq.{length-take-le, take_at, drop_at, drop-drop}
use Rattle.deployment.specs.Bytes.{number_from, number, bytes_of, part, chunks, joined}
use Rattle.deployment.specs.Properties.{AreBytes}

-- what holds of the empty list and goes on holding when an element is put at the end holds of every list
pub from_the_end {ℓ} : {A : Type 0} (P : List A → Type ℓ) → P [] → ((l : List A) (a : A) → P l → P (l ++ (a ∷ [])))
    → (l : List A) → P l
from_the_end {A} P base step l = go [] l base
  where
    go : (f l : List A) → P f → P (f ++ l)
    go f [] p = rw (append-nil f) p
    go f (a ∷ l) p = rw append_assoc at (go (f ++ (a ∷ [])) l (step f a p))

-- Bytes.
pub are_bytes_append : (u v : List ℕ) → AreBytes u → AreBytes v → AreBytes (u ++ v)
are_bytes_append u v hu hv b h = ⊎_elim (λ t. hu b t) (λ t. hv b t) (Memᴰ.append_cases u h)

pub are_bytes_left : (u v : List ℕ) → AreBytes (u ++ v) → AreBytes u
are_bytes_left u v h b t = h b (Memᴰ.append_left v t)

pub are_bytes_right : (u v : List ℕ) → AreBytes (u ++ v) → AreBytes v
are_bytes_right u v h b t = h b (Memᴰ.append_right u t)

pub are_bytes_take : (n : ℕ) (l : List ℕ) → AreBytes l → AreBytes (take n l)
are_bytes_take n l h = are_bytes_left (take n l) (drop n l) (rw take-append-drop h)

pub are_bytes_drop : (n : ℕ) (l : List ℕ) → AreBytes l → AreBytes (drop n l)
are_bytes_drop n l h = are_bytes_right (take n l) (drop n l) (rw take-append-drop h)

pub are_bytes_part : (start size : ℕ) (l : List ℕ) → AreBytes l → AreBytes (part start size l)
unfolding part
are_bytes_part start size l h = are_bytes_take size (drop start l) (are_bytes_drop start l h)

pub elements_are_bytes : (l : List ℕ) → ((i : ℕ) → get_or l i 0 < 256) → AreBytes l
elements_are_bytes [] h b t = absurd (Memᴰ.not-nil t)
elements_are_bytes (x ∷ l) h b t =
    ⊎_elim (λ same. rw same (h 0)) (λ k. elements_are_bytes l (λ i. h (suc i)) b k) (Memᴰ.cases_cons t)

-- A number and its bytes.
pub number_snoc : (n : ℕ) (bytes : List ℕ) (b : ℕ) → number_from n (bytes ++ (b ∷ [])) ≡ number_from n bytes * 256 + b
unfolding number_from
number_snoc n [] b = refl
number_snoc n (c ∷ bytes) b = number_snoc (n * 256 + c) bytes b

pub length_snoc : (l : List ℕ) (b : ℕ) → length (l ++ (b ∷ [])) ≡ suc (length l)
length_snoc l b = length-append l (b ∷ []) ∙ add-one (length l)

pub length_bytes : (width n : ℕ) → length (bytes_of width n) ≡ width
unfolding bytes_of
length_bytes zero n = refl
length_bytes (suc width) n = length_snoc (bytes_of width (n / 256)) (n % 256) ∙ ap suc (length_bytes width (n / 256))

pub bytes_are_bytes : (width n : ℕ) → AreBytes (bytes_of width n)
unfolding bytes_of
bytes_are_bytes zero n b h = absurd (Memᴰ.not-nil h)
bytes_are_bytes (suc width) n b h =
    are_bytes_append (bytes_of width (n / 256)) (n % 256 ∷ []) (bytes_are_bytes width (n / 256))
    (λ b h. rw (Memᴰ.eq_of_singleton h) (mod-lt n (omega arith))) b h

pub number_bytes : (width n : ℕ) → n < 256 ^ width → number (bytes_of width n) ≡ n
unfolding number number_from bytes_of
number_bytes zero n h = omega arith
number_bytes (suc width) n h =
    number_snoc 0 (bytes_of width (n / 256)) (n % 256)
    ∙ ap (λ (m : ℕ). m * 256 + n % 256) (number_bytes width (n / 256) ((div-lt_iff_lt-mul (omega arith)).1 (rw pow-suc at h)))
    ∙ div-add-mod' n 256

pub bytes_number : (bytes : List ℕ) → AreBytes bytes → bytes_of (length bytes) (number bytes) ≡ bytes
unfolding number number_from bytes_of
bytes_number = from_the_end (λ l. AreBytes l → bytes_of (length l) (number l) ≡ l) (λ h. refl) step
  where
    step : (l : List ℕ) (b : ℕ) → (AreBytes l → bytes_of (length l) (number l) ≡ l) → AreBytes (l ++ (b ∷ []))
        → bytes_of (length (l ++ (b ∷ []))) (number (l ++ (b ∷ []))) ≡ l ++ (b ∷ [])
    step l b hyp h =
        let small : b < 256 = h b (Memᴰ.append_right l (Memᴰ.head refl)) in
        let quotient : (number l * 256 + b) / 256 ≡ number l = omega arith in
        let remainder : (number l * 256 + b) % 256 ≡ b = omega arith in
        rw (length_snoc l b, number_snoc 0 l b, quotient, remainder, hyp (are_bytes_left l (b ∷ []) h))

pub number_fits : (bytes : List ℕ) → AreBytes bytes → number bytes < 256 ^ length bytes
unfolding number number_from
number_fits = from_the_end (λ l. AreBytes l → number l < 256 ^ length l) (λ h. omega arith) step
  where
    step : (l : List ℕ) (b : ℕ) → (AreBytes l → number l < 256 ^ length l) → AreBytes (l ++ (b ∷ []))
        → number (l ++ (b ∷ [])) < 256 ^ length (l ++ (b ∷ []))
    step l b hyp h =
        let small : b < 256 = h b (Memᴰ.append_right l (Memᴰ.head refl)) in
        let before : number l < 256 ^ length l = hyp (are_bytes_left l (b ∷ []) h) in
        rw (length_snoc l b, number_snoc 0 l b, pow-suc) (omega arith)

-- Parts.
pub length_part : (start size : ℕ) (l : List ℕ) → start + size ≤ length l → length (part start size l) ≡ size
unfolding part
length_part start size l h = length-take-le size (drop start l) (rw length-drop (omega arith))

-- a part and what stands behind it
pub part_rest : (start size : ℕ) (l : List ℕ) → part start size l ++ drop (start + size) l ≡ drop start l
unfolding part
part_rest start size l = rw (← drop-drop) (take-append-drop size (drop start l))

-- a part, written from its number
pub part_written : (start width : ℕ) (l : List ℕ) → AreBytes l → start + width ≤ length l
    → bytes_of width (number (part start width l)) ≡ part start width l
part_written start width l h fits =
    let wide : length (part start width l) ≡ width = length_part start width l fits in
    rw wide at (bytes_number (part start width l) (are_bytes_part start width l h))

pub part_fits : (start width : ℕ) (l : List ℕ) → AreBytes l → start + width ≤ length l → number (part start width l) < 256 ^ width
part_fits start width l h fits =
    let wide : length (part start width l) ≡ width = length_part start width l fits in
    rw wide at (number_fits (part start width l) (are_bytes_part start width l h))

-- Pieces of one width.
pub length_chunks : (width count : ℕ) (l : List ℕ) → length (chunks width count l) ≡ count
unfolding chunks
length_chunks width zero l = refl
length_chunks width (suc count) l = ap suc (length_chunks width count (drop width l))

pub chunks_joined : (width : ℕ) (pieces : List (List ℕ)) → ((piece : List ℕ) → Memᴰ piece pieces → length piece ≡ width)
    → chunks width (length pieces) (joined pieces) ≡ pieces
unfolding chunks joined
chunks_joined width [] h = refl
chunks_joined width (piece ∷ pieces) h =
    let wide : length piece ≡ width = h piece (Memᴰ.head refl) in
    rw (
      take_at piece (joined pieces) width wide,
      drop_at piece (joined pieces) width wide,
      chunks_joined width pieces (λ other t. h other (Memᴰ.tail t)),
    )

left_length : (width count : ℕ) (l : List ℕ) → length l ≡ width * suc count → length (drop width l) ≡ width * count
left_length width count l e = omega (arith, length-drop width l, mul-suc width count)

pub joined_chunks : (width count : ℕ) (l : List ℕ) → length l ≡ width * count → joined (chunks width count l) ≡ l
unfolding chunks joined
joined_chunks width zero l e = sym (drop_of_length-le l (le_of_eq (e ∙ mul-zero width)))
joined_chunks width (suc count) l e =
    rw (joined_chunks width count (drop width l) (left_length width count l e)) (take-append-drop width l)

pub chunk_length : (width count : ℕ) (l : List ℕ) → length l ≡ width * count
    → (piece : List ℕ) → Memᴰ piece (chunks width count l) → length piece ≡ width
unfolding chunks
chunk_length width zero l e piece h = absurd (Memᴰ.not-nil h)
chunk_length width (suc count) l e piece h =
    ⊎_elim (λ same. ap length same ∙ length-take-le width l (omega (arith, mul-suc width count)))
    (λ t. chunk_length width count (drop width l) (left_length width count l e) piece t)
    (Memᴰ.cases_cons h)

pub length_joined : (width : ℕ) (pieces : List (List ℕ)) → ((piece : List ℕ) → Memᴰ piece pieces → length piece ≡ width)
    → length (joined pieces) ≡ width * length pieces
unfolding joined
length_joined width [] h = sym (mul-zero width)
length_joined width (piece ∷ pieces) h =
    omega (
      arith,
      length-append piece (joined pieces),
      h piece (Memᴰ.head refl),
      length_joined width pieces (λ other t. h other (Memᴰ.tail t)),
      mul-suc width (length pieces),
    )

pub are_bytes_chunk : (width count : ℕ) (l : List ℕ) → AreBytes l
    → (piece : List ℕ) → Memᴰ piece (chunks width count l) → AreBytes piece
unfolding chunks
are_bytes_chunk width zero l h piece t = absurd (Memᴰ.not-nil t)
are_bytes_chunk width (suc count) l h piece t =
    ⊎_elim (λ same. rw same (are_bytes_take width l h))
    (λ k. are_bytes_chunk width count (drop width l) (are_bytes_drop width l h) piece k)
    (Memᴰ.cases_cons t)

pub are_bytes_joined : (pieces : List (List ℕ)) → ((piece : List ℕ) → Memᴰ piece pieces → AreBytes piece)
    → AreBytes (joined pieces)
unfolding joined
are_bytes_joined [] h = λ b t. absurd (Memᴰ.not-nil t)
are_bytes_joined (piece ∷ pieces) h =
    are_bytes_append piece (joined pieces) (h piece (Memᴰ.head refl))
    (are_bytes_joined pieces (λ other t. h other (Memᴰ.tail t)))
