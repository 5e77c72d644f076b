-- The strings and the keys among the tokens of a text of UTF-8 are UTF-8.
use Rattle.std.specs.List.{AllByRecursion, starts_with}
use Rattle.std.specs.Prelude.{nat_eq, take, drop}
use Rattle.std.specs.Str.{IsUtf8}
use Rattle.std.proofs.Common.{◌≡◌, ℕ, ◌-◌, ◌==◌, ◌&&◌, Bool, true, false, cond, Option, Some, None, List, [], ◌∷◌, ◌++◌, length, refl, sym, subst, arith, append_assoc}
use Rattle.std.proofs.lemmas.Bool.Decides.{nat_tests}
use Rattle.json.specs.Token.{Token, begin_object, end_object, begin_array, end_array, key, string, number, boolean, null, bad}
use Rattle.json.specs.Text.{content, plain}
use Rattle.json.specs.Word.{is_operator, is_space, head, ends_word, after_number, number_before, literal, word}
use Rattle.json.specs.Ascii as ascii
use Rattle.json.specs.Lex.{Lexeme, token, comma, colon, Class, quote, backslash, operator, space, other, class, operator_lexeme, string_token, Mode, between, in_word, in_string, in_escape, lex_byte, lex, Place, fresh, after_value, after_comma, after_key, begins_colon, may_begin, may_close, if_allowed, place_token, punctuate, tokens}
use Rattle.ccr_law_stores.proofs.SpelledContents.{on_cond, after_ascii, content_utf8}

-- a token's string or key is UTF-8
abbrev pub IsTextToken : Token → Type 0
IsTextToken (key s) = IsUtf8 s
IsTextToken (string s) = IsUtf8 s
IsTextToken begin_object = Unit {0}
IsTextToken end_object = Unit {0}
IsTextToken begin_array = Unit {0}
IsTextToken end_array = Unit {0}
IsTextToken (number s) = Unit {0}
IsTextToken (boolean b) = Unit {0}
IsTextToken null = Unit {0}
IsTextToken bad = Unit {0}

abbrev pub IsTextLexeme : Lexeme → Type 0
IsTextLexeme (token t) = IsTextToken t
IsTextLexeme comma = Unit {0}
IsTextLexeme colon = Unit {0}

-- ---- lexemes

-- what stands before makes a text with it
abbrev IsRest : List ℕ → Type 0
IsRest xs = (qs : List ℕ) × IsUtf8 (qs ++ xs)

next_rest : (x : ℕ) (xs : List ℕ) → IsRest (x ∷ xs) → IsRest xs
next_rest x xs rest = (rest.0 ++ x ∷ [], subst IsUtf8 (sym (append_assoc rest.0 (x ∷ []) xs)) rest.1)

after_quote : (x : ℕ) (xs : List ℕ) → IsRest (x ∷ xs) → class x ≡ quote → IsUtf8 xs
after_quote x xs rest =
    on_cond (λ (c : Class). c ≡ quote → IsUtf8 xs) (x == 34) quote _
    (λ is e. let own : x ≡ 34 = grind (arith, nat_tests) in after_ascii rest.0 x xs (omega arith) rest.1)
    (λ isnt. on_cond (λ (c : Class). c ≡ quote → IsUtf8 xs) (x == 92) backslash _ (λ is e. cc)
    (λ no. on_cond (λ (c : Class). c ≡ quote → IsUtf8 xs) (is_operator x) operator _ (λ is e. cc)
    (λ nor. on_cond (λ (c : Class). c ≡ quote → IsUtf8 xs) (is_space x) space other (λ is e. cc) (λ none e. cc))))

string_text : (xs : List ℕ) → IsUtf8 xs → IsTextToken (string_token (content plain xs))
string_text xs text = by_content (content plain xs) (content_utf8 xs)
  where
    by_content : (o : Option (List ℕ)) → ((s : List ℕ) → IsUtf8 xs → o ≡ Some s → IsUtf8 s) → IsTextToken (string_token o)
    by_content None says = tt
    by_content (Some s) says = says s text refl

literal_text : (name : List ℕ) (t : Token) (xs : List ℕ) → IsTextToken t → IsTextToken (literal name t xs)
literal_text name t xs own = on_cond IsTextToken (starts_with nat_eq xs name && ends_word (drop (length name) xs)) t bad (λ is. own) (λ isnt. tt)

number_text : (t : List ℕ) (o : Option (List ℕ)) → IsTextToken (number_before t o)
number_text t None = tt
number_text t (Some rest) = on_cond IsTextToken (ends_word rest) (number (take (length t - length rest) t)) bad (λ is. tt) (λ isnt. tt)

word_text : (t : List ℕ) → IsTextToken (word t)
unfolding word
word_text t =
    of_three (head t == 116) (head t == 102) (head t == 110) (literal ascii.true_text (boolean true) t) (literal ascii.false_text (boolean false) t)
    (literal ascii.null_text null t) (number_before t (after_number t))
    (literal_text ascii.true_text (boolean true) t tt) (literal_text ascii.false_text (boolean false) t tt) (literal_text ascii.null_text null t tt) (number_text t (after_number t))
  where
    of_three : (a b c : Bool) (w x y z : Token) → IsTextToken w → IsTextToken x → IsTextToken y → IsTextToken z → IsTextToken (cond a w (cond b x (cond c y z)))
    of_three true b c w x y z ww wx wy wz = ww
    of_three false true c w x y z ww wx wy wz = wx
    of_three false false true w x y z ww wx wy wz = wy
    of_three false false false w x y z ww wx wy wz = wz

operator_text : (x : ℕ) → IsTextLexeme (operator_lexeme x)
operator_text x = of_five (x == 123) (x == 125) (x == 91) (x == 93) (x == 44)
  where
    of_five : (a b c d f : Bool) → IsTextLexeme (cond a (token begin_object) (cond b (token end_object) (cond c (token begin_array) (cond d (token end_array) (cond f comma colon)))))
    of_five true b c d f = tt
    of_five false true c d f = tt
    of_five false false true d f = tt
    of_five false false false true f = tt
    of_five false false false false true = tt
    of_five false false false false false = tt

byte_text : (m : Mode) (c : Class) (x : ℕ) (xs : List ℕ) (k : Mode → List Lexeme) → (c ≡ quote → IsUtf8 xs)
    → ((next : Mode) → AllByRecursion IsTextLexeme (k next)) → AllByRecursion IsTextLexeme (lex_byte m c x xs k)
byte_text between quote x xs k text all = (string_text xs (text refl), all in_string)
byte_text between backslash x xs k text all = (tt, all in_word)
byte_text between operator x xs k text all = (operator_text x, all between)
byte_text between space x xs k text all = all between
byte_text between other x xs k text all = (word_text (x ∷ xs), all in_word)
byte_text in_word quote x xs k text all = all in_word
byte_text in_word backslash x xs k text all = all in_word
byte_text in_word operator x xs k text all = (operator_text x, all between)
byte_text in_word space x xs k text all = all between
byte_text in_word other x xs k text all = all in_word
byte_text in_string quote x xs k text all = all between
byte_text in_string backslash x xs k text all = all in_escape
byte_text in_string operator x xs k text all = all in_string
byte_text in_string space x xs k text all = all in_string
byte_text in_string other x xs k text all = all in_string
byte_text in_escape c x xs k text all = all in_string

lexemes_text : (m : Mode) (xs : List ℕ) → IsRest xs → AllByRecursion IsTextLexeme (lex m xs)
unfolding lex
lexemes_text m [] rest = tt
lexemes_text m (x ∷ xs) rest =
    byte_text m (class x) x xs (λ next. lex next xs) (after_quote x xs rest) (λ next. lexemes_text next xs (next_rest x xs rest))

-- ---- tokens

abbrev AreTexts : List Token → Type 0
AreTexts ts = AllByRecursion IsTextToken ts

allowed_text : (b : Bool) (t : Token) (k : Place → List Token) (next : Place) → IsTextToken t → ((p : Place) → AreTexts (k p)) → AreTexts (if_allowed b t k next)
allowed_text true t k next own all = (own, all next)
allowed_text false t k next own all = (tt, tt)

place_text : (p : Place) (t : Token) (before_colon : Bool) (k : Place → List Token) → IsTextToken t → ((q : Place) → AreTexts (k q)) → AreTexts (place_token p t before_colon k)
place_text p begin_object c k own all = allowed_text (may_begin p) begin_object k fresh tt all
place_text p end_object c k own all = allowed_text (may_close p) end_object k after_value tt all
place_text p begin_array c k own all = allowed_text (may_begin p) begin_array k fresh tt all
place_text p end_array c k own all = allowed_text (may_close p) end_array k after_value tt all
place_text p (key s) c k own all = (tt, tt)
place_text p (string s) true k own all = allowed_text (may_begin p) (key s) k after_key own all
place_text p (string s) false k own all = allowed_text (may_begin p) (string s) k after_value own all
place_text p (number s) c k own all = allowed_text (may_begin p) (number s) k after_value tt all
place_text p (boolean b) c k own all = allowed_text (may_begin p) (boolean b) k after_value tt all
place_text p null c k own all = allowed_text (may_begin p) null k after_value tt all
place_text p bad c k own all = (tt, tt)

punctuated_text : (p : Place) (ls : List Lexeme) → AllByRecursion IsTextLexeme ls → AreTexts (punctuate p ls)
unfolding punctuate
punctuated_text fresh [] all = tt
punctuated_text after_value [] all = tt
punctuated_text after_comma [] all = (tt, tt)
punctuated_text after_key [] all = (tt, tt)
punctuated_text fresh (token t ∷ ls) all = place_text fresh t (begins_colon ls) (λ next. punctuate next ls) all.0 (λ q. punctuated_text q ls all.1)
punctuated_text after_value (token t ∷ ls) all = place_text after_value t (begins_colon ls) (λ next. punctuate next ls) all.0 (λ q. punctuated_text q ls all.1)
punctuated_text after_comma (token t ∷ ls) all = place_text after_comma t (begins_colon ls) (λ next. punctuate next ls) all.0 (λ q. punctuated_text q ls all.1)
punctuated_text after_key (token t ∷ ls) all = place_text after_key t (begins_colon ls) (λ next. punctuate next ls) all.0 (λ q. punctuated_text q ls all.1)
punctuated_text fresh (comma ∷ ls) all = (tt, tt)
punctuated_text after_value (comma ∷ ls) all = punctuated_text after_comma ls all.1
punctuated_text after_comma (comma ∷ ls) all = (tt, tt)
punctuated_text after_key (comma ∷ ls) all = (tt, tt)
punctuated_text fresh (colon ∷ ls) all = (tt, tt)
punctuated_text after_value (colon ∷ ls) all = (tt, tt)
punctuated_text after_comma (colon ∷ ls) all = (tt, tt)
punctuated_text after_key (colon ∷ ls) all = punctuated_text fresh ls all.1

pub tokens_text : (xs : List ℕ) → IsUtf8 xs → AllByRecursion IsTextToken (tokens xs)
tokens_text xs text = punctuated_text fresh (lex between xs) (lexemes_text between xs ([], text))
