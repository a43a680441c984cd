mod SameShape
