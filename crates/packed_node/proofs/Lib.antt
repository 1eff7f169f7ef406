mod BitmapLemmas
